-- `lister::read_front` meets its contract: what a reader gives up to a limit is the front of what it gives. Assumes nothing.
use Rattle.std.specs.Prelude.{◌≡◌, ◌++◌, ℕ, List, take, IfSome, OnOk, Option, None, Some, Result, Ok, Err}
use Rattle.std.specs.Option.{option_map}
use Rattle.lister.proofs.read_front.Goals as goal

front : {A E : Type 0} (n : ℕ) (r : Result A E) (o : Option (List ℕ)) (before after : List ℕ) →
    OnOk r (IfSome (option_map (take n) o) (λ xs. after ≡ before ++ xs)) → OnOk r (IfSome o (λ xs. after ≡ before ++ take n xs))
front n (Ok a) (Some xs) before after h = h
front n (Ok a) None before after h = h
front n (Err e) o before after h = h

pub returns-clause-bytes : goal.returns-clause-bytes
returns-clause-bytes g c = front 65537 _ _ _ _ (rw (c.take.ensures.limit, c.take.ensures.inner) at c.read_to_end.ensures.bytes)
