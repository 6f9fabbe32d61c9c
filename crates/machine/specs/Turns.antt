-- The turns of a run that goes through bytes: what is left from here ends where the whole ends. Assumes nothing.
use Prim.Native.Nat.{ℕ, zero, suc, ◌+◌, ◌-◌, ◌≤◌, ◌<◌}
use Rattle.std.specs.Prelude.{◌≡◌, refl, List, ◌∷◌, eqb, length, take, drop, replicate}
use Rattle.std.proofs.Common.{sym, ◌∙◌}
use Rattle.std.proofs.Math.Path.{ap}
use native.Mathlib.Omega.{arith}
use Rattle.std.proofs.lemmas.List.{length-replicate}
use Rattle.std.proofs.Math.Seq.{drop-drop}
use Rattle.fields.specs.Fields.{field_of}
use Rattle.programs.specs.Instructions.{length_of}
use Rattle.programs.specs.Header.{header_length}
use Rattle.programs.specs.declared.description.Instruction.{Instruction}
use Rattle.machine.specs.Meaning.{word_gates, exec}
use Rattle.machine.specs.Runs.{steps, run_answer}
use Rattle.machine.specs.declared.runs.Run.{Run}
use Rattle.checker.specs.Standing.{read_of, Formed, formed-less, Known, Standing, ReadyAt}
use Rattle.checker.specs.Standing.{read_first, some-ready, ready-room, formed-next}
use Rattle.machine.specs.Steps.{state, Connective, gate_kind, Kinds, Does}

-- ---- a run under way
pub record Going (file : List ℕ) (ins rs₀ os₀ : List ℕ) (n₀ from : ℕ) (rs os : List ℕ) (n at : ℕ) : Type 0 where
  pub formed : Formed n (length rs) (length ins) (length os) (drop at file)
  pub same : exec word_gates ins (read_of n (drop at file)) (state rs os) ≡
      exec word_gates ins (read_of n₀ (drop from file)) (state rs₀ os₀)
  pub long : length rs ≡ length rs₀
  pub wide : length os ≡ length os₀

-- by instructions that change registers alone, with any inputs and outputs
pub record Along (file : List ℕ) (n₀ from : ℕ) (rs₀ : List ℕ) (n at : ℕ) (rs : List ℕ) : Type 0 where
  pub known : Known n₀ (length rs₀) (drop from file)
  pub goes : (ins os : List ℕ) → Formed n₀ (length rs₀) (length ins) (length os) (drop from file) → Going file ins rs₀ os n₀ from rs os n at
  pub less : n ≤ n₀
  pub long : length rs ≡ length rs₀

-- what a run of n instructions from a byte on leaves
pub record RunLeaves (file : List ℕ) (from n : ℕ) (ins rs os rs' os' : List ℕ) : Type 0 where
  pub left : state rs' os' ≡ exec word_gates ins (read_of n (drop from file)) (state rs os)

pub going_none : {file : List ℕ} {ins rs₀ os₀ : List ℕ} {n₀ from : ℕ} → Formed n₀ (length rs₀) (length ins) (length os₀) (drop from file) →
    Going file ins rs₀ os₀ n₀ from rs₀ os₀ n₀ from
going_none f = record { formed = f; same = refl; long = refl; wide = refl }

module _ {file : List ℕ} {ins rs₀ os₀ : List ℕ} {n₀ from : ℕ} {rs os : List ℕ} {n at : ℕ}
    (g : Going file ins rs₀ os₀ n₀ from rs os n at) where
  -- one instruction, then the gates that follow it
  pub going_step : 0 < n → {next : ℕ} {rs' os' : List ℕ} → Does file at ins rs os next rs' os' →
      Going file ins rs₀ os₀ n₀ from rs' os' (n - 1) next
  unfolding exec
  going_step l d =
      let q : n ≡ suc (n - 1) = omega arith in
      let first = read_first (n - 1) (drop at file) d.i d.reads in
      rw d.ahead
      (record {
        formed = rw (d.long, d.wide) (formed-next (n - 1) _ _ _ file at d.i d.reads (rw q at g.formed));
        same = ap (exec word_gates ins (read_of (n - 1) (drop (at + length_of d.i) file))) (sym d.does) ∙
            rw (q, first, drop-drop (length_of d.i) at file) at g.same;
        long = d.long ∙ g.long;
        wide = d.wide ∙ g.wide;
      })

  pub going_along : {n' at' : ℕ} {rs' : List ℕ} → Along file n at rs n' at' rs' → Going file ins rs₀ os₀ n₀ from rs' os n' at'
  going_along a =
      let h = a.goes ins os g.formed in
      record { formed = h.formed; same = h.same ∙ g.same; long = h.long ∙ g.long; wide = g.wide }

  pub going_ready : 0 < n → ReadyAt file at (length rs) (length ins) (length os)
  going_ready l = some-ready n _ _ _ file at l g.formed

  pub going_known : Known n (length rs) (drop at file)
  going_known = record { ni = _; nq = _; formed = g.formed }

  pub going_done : n ≤ 0 → RunLeaves file from n₀ ins rs₀ os₀ rs os
  unfolding read_of exec
  going_done l =
      let z : n ≡ 0 = omega arith in
      record { left = rw z at g.same }

-- ---- gates one after another
pub along_none : {file : List ℕ} {n₀ from : ℕ} {rs₀ : List ℕ} → Known n₀ (length rs₀) (drop from file) → Along file n₀ from rs₀ n₀ from rs₀
along_none k = record { known = k; goes = λ ins os f. going_none f; less = omega arith; long = refl }

module _ {file : List ℕ} {n₀ from : ℕ} {rs₀ : List ℕ} {n at : ℕ} {rs : List ℕ} (a : Along file n₀ from rs₀ n at rs) where
  pub along_known : Known n (length rs) (drop at file)
  along_known =
      let k = a.known in
      going_known (a.goes (replicate k.ni 0) (replicate k.nq 0) (simp length-replicate k.formed))

  pub along_ready : 0 < n → ReadyAt file at (length rs) along_known.ni along_known.nq
  along_ready l = some-ready n _ _ _ file at l along_known.formed

  pub along_room : 0 < n → at + 6 ≤ length file
  along_room l = ready-room file at _ _ _ (along_ready l)

  pub four_stand : 3 < n → Standing 4 (drop at file)
  four_stand l = record { nr = _; ni = _; nq = _; formed = formed-less 4 n _ _ _ (drop at file) l along_known.formed }

  -- it goes on from where another has come
  pub along_then : {n' at' : ℕ} {rs' : List ℕ} → Along file n at rs n' at' rs' → Along file n₀ from rs₀ n' at' rs'
  along_then h =
      record {
        known = a.known;
        goes = λ ins os f. going_along (a.goes ins os f) h;
        less = omega (arith, a.less, h.less);
        long = h.long ∙ a.long;
      }

  -- a gate is next, or four are
  pub record Next (g : Connective) : Type 0 where
    pub some : 0 < n
    pub kind : field_of file (at + 2) ≡ gate_kind g

  pub record NextFour (g : Connective) : Type 0 where
    pub some : 3 < n
    pub kinds : Kinds g file at 4

-- ---- going past instructions
pub record Past (file : List ℕ) (from n k at : ℕ) : Type 0 where
  pub formed : (nr ni nq : ℕ) → Formed n nr ni nq (drop from file) → Formed (n - k) nr ni nq (drop at file)
  pub rest : read_of (n - k) (drop at file) ≡ drop k (read_of n (drop from file))

pub past-none : {file : List ℕ} {from n : ℕ} → Past file from n 0 from
past-none {n = n} =
    let z : n - 0 ≡ n = omega arith in
    record { formed = λ nr ni nq f. rw z f; rest = rw z }

module _ {file : List ℕ} {from n k at : ℕ} (g : Past file from n k at) where
  module _ (l : k < n) (s : Standing n (drop from file)) where
    past-ready : ReadyAt file at s.nr s.ni s.nq
    past-ready = some-ready (n - k) _ _ _ file at (omega arith) (g.formed _ _ _ s.formed)

    pub past_room : at + 6 ≤ length file
    past_room = ready-room file at _ _ _ past-ready

    pub past_fits : {len : ℕ} → len ≡ field_of file at → at + len ≤ length file
    past_fits e = omega (arith, past-ready.stands.long, past-ready.stands.room)

    pub past_turn : {len : ℕ} → len ≡ field_of file at → Past file from n (k + 1) (at + len)
    past_turn e =
        let i = past-ready.i in
        let reads = past-ready.stands.reads in
        let m = n - (k + 1) in
        let q : n - k ≡ suc m = omega arith in
        rw (e ∙ past-ready.stands.long)
        (record {
          formed = λ nr ni nq f. formed-next m nr ni nq file at i reads (rw q at (g.formed nr ni nq f));
          rest = rw (← drop-drop (length_of i) at file)
              (ap (drop 1) (sym (read_first m (drop at file) i reads) ∙ rw q at g.rest) ∙ drop-drop 1 k _);
        })

  pub past-done : {position : ℕ} → k ≤ position → position ≤ k → Past file from n position at
  past-done {position} a b =
      let e : k ≡ position = omega arith in
      rw e at g

-- ---- a whole run
-- its answer, and the registers and outputs that it leaves
pub record Ends (file : List ℕ) (count : ℕ) (ins rs os : List ℕ) (position budget : ℕ) (r : Run) (rs' os' : List ℕ) : Type 0 where
  pub answer : r ≡ run_answer budget position count
  pub left : state rs' os' ≡
      exec word_gates ins (take (steps budget position count) (drop position (read_of count (drop header_length file)))) (state rs os)

read_take : (m n nr ni nq : ℕ) (file : List ℕ) (at : ℕ) → m ≤ n → Formed n nr ni nq (drop at file) →
    read_of m (drop at file) ≡ take m (read_of n (drop at file))
unfolding read_of
read_take zero n nr ni nq file at l f = refl
read_take (suc m) zero nr ni nq file at l f = absurd (omega arith)
read_take (suc m) (suc n) nr ni nq file at l f =
    let r = some-ready (suc n) nr ni nq file at (omega arith) f in
    let i = r.i in
    let e = r.stands.reads in
    rw (e, drop-drop (length_of i) at file)
    (ap (λ (is : List Instruction). i ∷ is)
    (read_take m n nr ni nq file (at + length_of i) (omega arith) (formed-next n nr ni nq file at i e f)))

module _ (file : List ℕ) (count : ℕ) (ins rs os : List ℕ) (position budget : ℕ)
    (f : Formed count (length rs) (length ins) (length os) (drop header_length file))
    (at : ℕ) (p : Past file header_length count position at) (n : ℕ) (is-n : n ≡ steps budget position count) where
  rest-formed : Formed (count - position) (length rs) (length ins) (length os) (drop at file)
  rest-formed = p.formed _ _ _ f

  pub run_formed : Formed n (length rs) (length ins) (length os) (drop at file)
  run_formed = formed-less n (count - position) _ _ _ (drop at file) (omega arith) rest-formed

  pub run_ends : (rs' os' : List ℕ) → RunLeaves file at n ins rs os rs' os' →
      Ends file count ins rs os position budget
      (record { finished = eqb (position + n) count; position = position + n; count = n; budget = budget }) rs' os'
  run_ends rs' os' c =
      let same = read_take n (count - position) _ _ _ file at (omega arith) rest-formed in
      record { answer = rw is-n; left = rw (same, is-n, p.rest) at c.left }
