-- A batch on words of the engine's own comes to what `batch_of` says, and a drawing is a batch whose outputs are read. Assumes nothing.
use Rattle.std.specs.Prelude.{ℕ, ◌≤◌, ◌<◌, ◌≡◌, refl, List, ltb, take, get_or, replicate}
use Rattle.std.proofs.Common.{sym, ◌∙◌, subst, arith}
use Rattle.std.proofs.Math.Path.{ap}
use borrow.Author.Tests.{lt-ltb, le-ltb}
use Rattle.std.proofs.Math.ListN.{length, length-replicate}
use Rattle.laws.specs.Lists.{length-upto}
use Rattle.laws.specs.Lay.{lay, length-lay, at_front, take-lay}
use Rattle.laws.specs.Outcome.{Outcome, refused, gives, refuse, ◌>>=◌, mapped, laid, gives_inj, mapped-gives, mapped-refused, mapped-mapped}
use Rattle.laws.specs.Outcome.{no_result, bind_is, bind_after, then-after, ends-refused}
use Rattle.fields.specs.Fields.{width}
use Rattle.programs.specs.Limits.{most_registers, most_inputs, most_outputs}
use Rattle.programs.specs.Header.{header_of}
use Rattle.programs.specs.Reading.{Within, within_means}
use Rattle.programs.specs.Inverse.{header-reads}
use Rattle.programs.specs.declared.description.Program.{Program}
use Rattle.machine.specs.Meaning.{Gates, word_gates, exec_long}
use Rattle.checker.specs.Checks.{Code, check_of}
use Rattle.machine.specs.Runs.{Ended, run_of, start_under, start_on, start_of}
use Rattle.checker.specs.Checking.{check_refused, check_says}
use Rattle.machine.proofs.Unseen.{start-inputs, start_forgets_enough}
use Rattle.machine.specs.Calls.{Room, Enough, cleared, admitted-gives}
use Rattle.machine.proofs.Calls.{start_is}
use Rattle.machine.specs.declared.runs.Run.{Run}
use Rattle.lanes.specs.Slicing.{lanes, slice_under, slice_of, word_of}
use Rattle.lanes.specs.Lanes.{cut}
use Rattle.drawing.specs.Drawing.{drawn_under, drawn_with, Left, left, batch_of, after_own, batched}
use Rattle.drawing.specs.declared.Batch.{Batch}

-- what a run leaves, of so many rows
abbrev left_by : ℕ → Ended ℕ → Left
left_by rows e = left rows e.state.outputs

abbrev batch_with : ℕ → ℕ → Batch
batch_with rows n = record { rows = rows; outputs = n }

-- how many outputs were left
abbrev many : Left → ℕ
many l = length l.outputs

-- ---- a start takes of what is lent no word but the program's inputs
module _ {A : Type 0} (G : Gates A) (file : List ℕ) (c : Code) (ok : check_of file ≡ gives c) (budget : ℕ) where
  enough_of : (inputs registers outputs : List A) → Room c.program inputs registers outputs → Enough file inputs registers outputs
  enough_of inputs registers outputs room d e =
      subst (λ (x : Code). Room x.program inputs registers outputs) (gives_inj (sym ok ∙ e)) room

  -- a start with room enough is a run of the program's instructions from cleared words
  start_runs : (inputs registers outputs : List A) → Room c.program inputs registers outputs →
      start_on G file inputs registers outputs budget ≡ gives (run_of G c.instructions inputs 0 budget (cleared G c.program))
  start_runs inputs registers outputs room =
      rw (
        start_is G file inputs registers outputs budget,
        admitted-gives G file inputs registers outputs 0 c (record { accepted = ok; before_end = omega arith; room = room }),
      )

  -- with any registers and outputs that are long enough, and inputs that agree on those of the program, it comes to the same
  start-agrees : (inputs registers outputs inputs' registers' outputs' : List A) → Room c.program inputs registers outputs →
      Room c.program inputs' registers' outputs' →
      ((k : ℕ) → k < c.program.inputs → get_or inputs k G.zeros ≡ get_or inputs' k G.zeros) →
      start_on G file inputs registers outputs budget ≡ start_on G file inputs' registers' outputs' budget
  start-agrees inputs registers outputs inputs' registers' outputs' room room' same =
      start-inputs G file c ok inputs inputs' same registers outputs room.for_inputs room'.for_inputs budget ∙
      start_forgets_enough G file inputs' registers outputs registers' outputs' budget
      (enough_of inputs' registers outputs
      (record { for_inputs = room'.for_inputs; for_registers = room.for_registers; for_outputs = room.for_outputs }))
      (enough_of inputs' registers' outputs' room')

  -- its outputs are as many as the header says
  start-long : (inputs registers outputs : List A) → Room c.program inputs registers outputs → (e : Ended A) →
      start_on G file inputs registers outputs budget ≡ gives e → length e.state.outputs ≡ c.program.outputs
  unfolding run_of
  start-long inputs registers outputs room e q =
      ap (λ (x : Ended A). length x.state.outputs) (gives_inj (sym q ∙ start_runs inputs registers outputs room)) ∙
      ((exec_long G inputs _ (cleared G c.program)).1 ∙ length-replicate {A = A} c.program.outputs G.zeros)

-- ---- a batch of an accepted program whose strings are sliced, with room for the samples
sliced-long : (n : ℕ) (strings : List ℕ) (r : ℕ) (ws : List ℕ) → slice_of n strings r ≡ gives ws → length ws ≡ n
sliced-long n strings r ws e = ap length (cut n strings r ws e).is ∙ length-upto n (word_of strings (width n))

module _ (program strings : List ℕ) (room : ℕ) (c : Code) (ok : check_of program ≡ gives c) (ws : List ℕ)
    (sliced : slice_of c.program.inputs strings c.program.inputs ≡ gives ws) (enough : lanes ≤ room) where
  abbrev header : Program
  header = c.program

  own_room : Room header ws (replicate header.registers 0) (replicate header.outputs 0)
  own_room =
      record {
        for_inputs = omega (arith, sliced-long header.inputs strings header.inputs ws sliced);
        for_registers = omega (arith, length-replicate {A = ℕ} header.registers 0);
        for_outputs = omega (arith, length-replicate {A = ℕ} header.outputs 0);
      }

  -- it has the outputs of a start on any words that are long enough and begin with those that are sliced
  batch-starts : (inputs registers outputs : List ℕ) → Room header inputs registers outputs →
      ((k : ℕ) → k < header.inputs → get_or ws k 0 ≡ get_or inputs k 0) →
      batch_of program strings room ≡ mapped (left_by header.rows) (start_of program inputs registers outputs header.count)
  unfolding drawn_under
  batch-starts inputs registers outputs r same =
      rw (ok, sliced, le-ltb room lanes enough)
      (rw (start-agrees word_gates program c ok header.count ws _ _ inputs registers outputs own_room r same)
      (bind_is (start_of program inputs registers outputs header.count) (left_by header.rows)))

-- ---- the header that is read first is that of the accepted program
header-same : (program : List ℕ) (p : Program) (c : Code) → header_of program ≡ gives p → check_of program ≡ gives c → c.program ≡ p
header-same program p c head ok = gives_inj (sym (check_says program c ok).0 ∙ head)

header-within : (program : List ℕ) (p : Program) → header_of program ≡ gives p → Within p
header-within program p head = within_means p (header-reads program p head).inside

-- ---- refusals that come after the program's own
refused-after : {A B : Type 0} (o : Outcome A) (f : A → Outcome B) (n k : ℕ) → ((a : A) → o ≡ gives a → f a ≡ refused n) →
    refused k ≡ ◌>>=◌ {B = Unit {0}} o (λ a. refused n) → (o >>= f) ≡ refused k
refused-after (refused m) f n k h e = ap refused (cc)
refused-after (gives a) f n k h e = h a refl ∙ ap refused (cc)

pub after_own_lem : (program : List ℕ) (n k : ℕ) → refused k ≡ mapped (λ c. c.program) (check_of program) → refused k ≡ after_own program n
unfolding after_own
after_own_lem program n k e = rw (mapped-refused (λ (c : Code). c.program) (check_of program) k e)

pub after_none : (program : List ℕ) (n : ℕ) (p : Program) → gives p ≡ mapped (λ c. c.program) (check_of program) →
    refused n ≡ after_own program n
unfolding after_own
after_none program n p e = rw (mapped-gives (λ (c : Code). c.program) (check_of program) p e).1

-- slicing into words that are too many gives the same
slice_any : (n : ℕ) (strings : List ℕ) (r : ℕ) → n ≤ r → slice_of n strings n ≡ slice_of n strings r
unfolding slice_under
slice_any n strings r h = rw (le-ltb n n (omega arith), le-ltb r n h)

batch_refuses : (program strings : List ℕ) (room k : ℕ) → check_of program ≡ refused k → batch_of program strings room ≡ refused k
unfolding drawn_under
batch_refuses program strings room k e = rw e

start_refuses : (program inputs registers outputs : List ℕ) (budget k : ℕ) → check_of program ≡ refused k →
    start_of program inputs registers outputs budget ≡ refused k
unfolding start_under
start_refuses program inputs registers outputs budget k e = rw e

laid-left : (rows : ℕ) (o : Outcome (Ended ℕ)) → laid (λ l. l.outputs) (mapped (left_by rows) o) ≡ laid (λ e. e.state.outputs) o
laid-left rows (refused k) = refl
laid-left rows (gives e) = refl

-- ---- the ways of a batch on words of the engine's own
module _ (program strings : List ℕ) (room : ℕ) where
  -- a batch that is refused tells it, and lays nothing down
  pub batch-refused : (n : ℕ) (outputs : List ℕ) → batch_of program strings room ≡ refused n →
      (refused n ≡ mapped batched (batch_of program strings room)) ×
      (outputs ≡ lay (laid (λ l. l.outputs) (batch_of program strings room)) outputs)
  batch-refused n outputs e = ends-refused batched (λ (l : Left). l.outputs) n (batch_of program strings room) outputs e

  pub batch_headless : (k : ℕ) → refused k ≡ header_of program → batch_of program strings room ≡ refused k
  batch_headless k e =
      batch_refuses program strings room k (mapped-refused (λ (c : Code). c.program) (check_of program) k (check_refused program k e))

  -- the header is read, and the strings are sliced into blank words
  module _ (p : Program) (head : gives p ≡ header_of program) (blank : List ℕ) (wide : most_inputs ≤ length blank) where
    abbrev slices : Outcome (List ℕ)
    slices = slice_of p.inputs strings (length blank)

    slice_own : (c : Code) → check_of program ≡ gives c → slice_of c.program.inputs strings c.program.inputs ≡ slices
    slice_own c ok =
        rw (header-same program p c (sym head) ok)
        (slice_any p.inputs strings (length blank) (omega (arith, (header-within program p (sym head)).few_inputs)))

    pub batch-strings : (n k : ℕ) → refused n ≡ mapped length slices → refused k ≡ after_own program n →
        batch_of program strings room ≡ refused k
    unfolding drawn_under after_own
    batch-strings n k s e =
        refused-after (check_of program) _ n k (λ c ok. rw (slice_own c ok ∙ mapped-refused length slices n s)) e

    pub batch-short : (m k : ℕ) → gives m ≡ mapped length slices → room < lanes → refused k ≡ after_own program 13 →
        batch_of program strings room ≡ refused k
    unfolding drawn_under after_own
    batch-short m k s h e =
        refused-after (check_of program) _ 13 k (λ c ok. rw (slice_own c ok ∙ (mapped-gives length slices m s).1, lt-ltb room lanes h)) e

    -- the program is started on these words
    module _ (enough : lanes ≤ room) (registers outputs : List ℕ) (long : most_registers ≤ length registers)
        (broad : most_outputs ≤ length outputs) where
      module _ (ws : List ℕ) (sliced : slices ≡ gives ws) where
        ws-long : length ws ≡ p.inputs
        ws-long = sliced-long p.inputs strings (length blank) ws sliced

        own_words : Room p (lay ws blank) registers outputs
        own_words =
            let limits = header-within program p (sym head) in
            record {
              for_inputs = omega (arith, length-lay ws blank (omega (arith, ws-long, limits.few_inputs)), limits.few_inputs);
              for_registers = omega (arith, limits.few_registers);
              for_outputs = omega (arith, limits.few_outputs);
            }

        start_own : batch_of program strings room ≡ mapped (left_by p.rows) (start_of program (lay ws blank) registers outputs p.count)
        start_own = by (check_of program) refl
          where
            by : (o : Outcome Code) → check_of program ≡ o →
                batch_of program strings room ≡ mapped (left_by p.rows) (start_of program (lay ws blank) registers outputs p.count)
            by (refused k) ok =
                batch_refuses program strings room k ok ∙
                ap (mapped (left_by p.rows)) (sym (start_refuses program (lay ws blank) registers outputs p.count k ok))
            by (gives c) ok =
                let q = header-same program p c (sym head) ok in
                batch-starts program strings room c ok ws (slice_own c ok ∙ sliced) enough (lay ws blank) registers outputs (rw q own_words)
                (λ k l. sym (at_front ws blank k 0 (omega (arith, ws-long, rw q at l)))) ∙
                ap (λ (r : Program). mapped (left_by r.rows) (start_of program (lay ws blank) registers outputs r.count)) q

        own_long : (e : Ended ℕ) → start_of program (lay ws blank) registers outputs p.count ≡ gives e →
            length e.state.outputs ≡ p.outputs
        own_long e q = by (check_of program) refl
          where
            by : (o : Outcome Code) → check_of program ≡ o → length e.state.outputs ≡ p.outputs
            by (refused k) ok = no_result k e (sym (start_refuses program (lay ws blank) registers outputs p.count k ok) ∙ q)
            by (gives c) ok =
                let r = header-same program p c (sym head) ok in
                start-long word_gates program c ok p.count (lay ws blank) registers outputs (rw r own_words) e q ∙
                ap (λ (r : Program). r.outputs) r

      module _ (m : ℕ) (s : gives m ≡ mapped length slices) (inputs : List ℕ)
          (laid-words : inputs ≡ lay (laid (λ xs. xs) slices) blank) where
        abbrev ending : Outcome (Ended ℕ)
        ending = start_of program inputs registers outputs p.count

        own_inputs : inputs ≡ lay (mapped-gives length slices m s).0 blank
        own_inputs =
            laid-words ∙ ap (λ (o : Outcome (List ℕ)). lay (laid (λ xs. xs) o) blank) (mapped-gives length slices m s).1

        -- a batch is a start on the words of the engine's own
        batch-is : batch_of program strings room ≡ mapped (left_by p.rows) ending
        batch-is = rw own_inputs (start_own (mapped-gives length slices m s).0 (mapped-gives length slices m s).1)

        -- and leaves as many outputs as its header says, of its rows
        abbrev own : Batch
        own = batch_with p.rows p.outputs

        batch-counts : mapped batched (batch_of program strings room) ≡ mapped (λ e. own) ending
        batch-counts = by ending refl
          where
            by : (o : Outcome (Ended ℕ)) → ending ≡ o → mapped batched (batch_of program strings room) ≡ mapped (λ e. own) o
            by (refused k) e = ap (mapped batched) (batch-is ∙ ap (mapped (left_by p.rows)) e)
            by (gives x) e =
                ap (mapped batched) (batch-is ∙ ap (mapped (left_by p.rows)) e) ∙
                ap (λ (n : ℕ). gives (batch_with p.rows n))
                (own_long (mapped-gives length slices m s).0 (mapped-gives length slices m s).1 x (rw own_inputs at e))

        -- so it ends, refused or done, as the start did
        pub batch-ends : (outputs' : List ℕ) (a : Outcome Run) → a ≡ mapped (λ e. e.answer) ending →
            outputs' ≡ lay (laid (λ e. e.state.outputs) ending) outputs →
            (mapped (λ r. own) a ≡ mapped batched (batch_of program strings room)) ×
            (outputs' ≡ lay (laid (λ l. l.outputs) (batch_of program strings room)) outputs)
        batch-ends outputs' a e l = (
          ap (mapped (λ (r : Run). own)) e ∙
              mapped-mapped (λ (e : Ended ℕ). e.answer) (λ (r : Run). own) (λ (e : Ended ℕ). own) ending (λ e. refl) ∙ sym batch-counts,
          l ∙ ap (λ (xs : List ℕ). lay xs outputs) (sym (ap (laid (λ (l : Left). l.outputs)) batch-is ∙ laid-left p.rows ending)),
        )

-- ---- a drawing is a batch, then its outputs read
module _ {A : Type 0} (program strings : List ℕ) (room : ℕ) (read : ℕ → List ℕ → Outcome A) where
  abbrev read_left : Left → Outcome A
  read_left l = read l.rows l.outputs

  drawn-is : drawn_with program strings room read ≡ (batch_of program strings room >>= read_left)
  unfolding drawn_under
  drawn-is =
      bind_after (check_of program) _ read_left _
      (λ c. bind_after (slice_of c.program.inputs strings c.program.inputs) _ read_left _
      (λ ws. then-after (refuse 13 (ltb room lanes)) _ read_left _
      (bind_after
      (start_of program ws (replicate c.program.registers 0) (replicate c.program.outputs 0) c.program.count)
      _ read_left _ (λ e. refl))))

read_front : {A : Type 0} (read : ℕ → List ℕ → Outcome A) (o : Outcome Left) (rows n : ℕ) (l : Left) (outputs blank : List ℕ) →
    o ≡ gives l → l.rows ≡ rows → many l ≡ n → outputs ≡ lay (laid (λ l. l.outputs) o) blank →
    (o >>= (λ l. read l.rows l.outputs)) ≡ read rows (take n outputs)
read_front read o rows n l outputs blank e r q b =
    let front : outputs ≡ lay l.outputs blank = b ∙ rw e in
    rw (e, front, take-lay n l.outputs blank q, r)

-- ---- as code has it: the batch answers x, and leaves its outputs at the front of blank words
-- no more of them than a program may have
pub batch-few : (program : List ℕ) (p : Program) → gives p ≡ header_of program → p.outputs ≤ most_outputs
batch-few program p head = (header-within program p (sym head)).few_outputs

module _ (program strings : List ℕ) (room : ℕ) {A : Type 0} (read : ℕ → List ℕ → Outcome (List A)) (samples : List A) where
  abbrev batch : Outcome Left
  batch = batch_of program strings room

  abbrev drawn : Outcome (List A)
  drawn = drawn_with program strings room read

  pub drawn-refused : {n : ℕ} → refused n ≡ mapped batched batch →
      (refused n ≡ mapped {B = Unit {0}} (λ xs. tt) drawn) × (samples ≡ lay (laid (λ xs. xs) drawn) samples)
  drawn-refused {n} e =
      ends-refused {B = Unit {0}} (λ (xs : List A). tt) (λ (xs : List A). xs) n drawn samples
      (drawn-is program strings room read ∙ rw (mapped-refused batched batch n e))

  -- what is read are the outputs of the batch, of its rows
  pub drawn_read : {b : Batch} {outputs : List ℕ} (blank : List ℕ) {a : Outcome (Unit {0})} {samples' : List A} →
      (gives b ≡ mapped batched batch) × (outputs ≡ lay (laid (λ l. l.outputs) batch) blank) →
      (a ≡ mapped (λ xs. tt) (read b.rows (take b.outputs outputs))) ×
      (samples' ≡ lay (laid (λ xs. xs) (read b.rows (take b.outputs outputs))) samples) →
      (a ≡ mapped (λ xs. tt) drawn) × (samples' ≡ lay (laid (λ xs. xs) drawn) samples)
  drawn_read {b} {outputs} blank r e =
      let (l, is, same) = mapped-gives batched batch b r.0 in
      let rows : l.rows ≡ b.rows = ap (λ (x : Batch). x.rows) same in
      let long : many l ≡ b.outputs = ap (λ (x : Batch). x.outputs) same in
      rw (drawn-is program strings room read ∙ read_front read batch b.rows b.outputs l outputs blank is rows long r.1) e
