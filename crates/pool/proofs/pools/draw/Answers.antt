-- `pool::draw` meets its contract: the sums decide as the records do, and a granted draw changes its signer's record. Assumes nothing.
use Rattle.std.proofs.Common.{sym, ◌∙◌, arith}
use Rattle.laws.specs.Outcome.{ends-refused}
use Rattle.fields.specs.Refusal.{passed_on}
use Rattle.pool.specs.Ways.{draw_refused, draw_unopened, draw_above, draw_short, draw_granted, inside, others_are, drawn_is, grant_ends}
use Rattle.pool.proofs.pools.draw.Goals as goal

pub returns-in_err-all : goal.returns-in_err-all
returns-in_err-all c = rw (passed_on c.from_residual.result _ c.from_residual.ensures.1) (ends-refused _ _ _ _ _
    (draw_refused c.args.words c.args.signers.now c.args.signer c.args.q _ c.in_err-all.ensures))

pub returns-then-signers-signer : goal.returns-then-signers-signer
returns-then-signers-signer c = ends-refused _ _ _ _ _
    (draw_unopened c.args.words c.args.signers.now _ c.in_ok-all.ensures c.args.signer c.args.q c.if-signers-signer.true)

pub returns-then-above_cap : goal.returns-then-above_cap
returns-then-above_cap c = ends-refused _ _ _ _ _
    (draw_above c.args.words c.args.signers.now _ c.in_ok-all.ensures c.args.signer c.args.q c.if-signers-signer.false
    (sym c.above_cap.ensures.above ∙ c.if-above_cap.true))

-- what the draw's sums are
pub overflow_sub-lacking : goal.overflow_sub-lacking
overflow_sub-lacking c = (inside c.args.words c.args.signers.now _ c.in_ok-all.ensures).0

pub overflow_sub-lacking-2 : goal.overflow_sub-lacking-2
overflow_sub-lacking-2 c =
    let e = others_are c.args.words c.args.signers.now _ c.in_ok-all.ensures c.args.signer c.args.q c.if-signers-signer.false in
    omega (arith, c.lack.ensures, e)

pub overflow_add-all : goal.overflow_add-all
overflow_add-all c =
    let i = inside c.args.words c.args.signers.now _ c.in_ok-all.ensures in
    omega (arith, c.above_cap.ensures.small c.if-above_cap.false, i)

pub overflow_add-all-2 : goal.overflow_add-all-2
overflow_add-all-2 c =
    let i = inside c.args.words c.args.signers.now _ c.in_ok-all.ensures in
    omega (arith, c.above_cap.ensures.small c.if-above_cap.false, i)

pub returns-then-words-all : goal.returns-then-words-all
returns-then-words-all c = ends-refused _ _ _ _ _
    (draw_short c.args.words c.args.signers.now _ c.in_ok-all.ensures c.args.signer c.args.q c.if-signers-signer.false
    (sym c.above_cap.ensures.above ∙ c.if-above_cap.false) (omega (
      arith,
      c.lack.ensures,
      others_are c.args.words c.args.signers.now _ c.in_ok-all.ensures c.args.signer c.args.q c.if-signers-signer.false,
    )))

pub overflow_cast-signers : goal.overflow_cast-signers
overflow_cast-signers c = omega (arith, c.above_cap.ensures.small c.if-above_cap.false)

pub returns : goal.returns
returns c = grant_ends c.args.signers.now c.args.signer c.args.q _ _
    (draw_granted c.args.words c.args.signers.now _ c.in_ok-all.ensures c.args.signer c.args.q c.if-signers-signer.false
    (sym c.above_cap.ensures.above ∙ c.if-above_cap.false) (omega (
      arith,
      c.lack.ensures,
      others_are c.args.words c.args.signers.now _ c.in_ok-all.ensures c.args.signer c.args.q c.if-signers-signer.false,
    )))
    (drawn_is c.args.words c.args.signers.now _ c.in_ok-all.ensures)
