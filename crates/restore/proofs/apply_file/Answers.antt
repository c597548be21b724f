-- each chunk is applied behind the one before it (`applied_more`), up to what is kept (`applied_up_to`)
use Rattle.std.proofs.Common.{arith, ◌≡◌, ◌≤◌, ◌+◌, ◌-◌, ℕ, List, length, take, length-take, subst}
use Rattle.wheel.specs.declared.Wheel.{Wheel}
use Rattle.records.specs.Words.{QueueWords, words}
use Rattle.recover.specs.Replay.{no_wheel, no_heads, without_store}
use Rattle.recover.proofs.laws.Apply.{applies_within}
use Rattle.recover.proofs.laws.Parts.{no_store_is}
use Rattle.restore.proofs.laws.Restore.{Applying, applied_more, applied_up_to}
use Rattle.restore.proofs.apply_file.Goals as goal

-- it begins with no store
from_none : {w : Wheel} {hh : List (List ℕ)} {vs ds ns ps ts ms : List ℕ} {at : ℕ} {t : QueueWords} → w ≡ no_wheel → hh ≡ no_heads
    → Applying at (words w hh vs ds ns ps ts ms) t → Applying at (without_store vs ds ns ps ts ms) t
from_none {vs = vs} {ds} {ns} {ps} {ts} {ms} {at} {t} e f I =
    subst (λ (z : Wheel × List (List ℕ)). Applying at (words z.0 z.1 vs ds ns ps ts ms) t) (λ i. (e i, f i)) I

-- no more is used than was handed on, and that is not more than is left
few : {used k at kept : ℕ} (xs : List ℕ) → used ≤ length (take k xs) → k ≤ kept - at → at ≤ kept → at + used ≤ kept
few {used} {k} xs w h p = let e = length-take k xs in omega arith

pub overflow_add-at : goal.overflow_add-at
overflow_add-at c =
    let a = few c.more_from-got.new.buf (applies_within c.apply-r.ensures) (omega arith) c.loop-at.invariant.most in omega arith

pub loop-at-preserved : goal.loop-at-preserved
loop-at-preserved c =
    record {
      applying = applied_more c.loop-at.invariant.applying c.apply-r.ensures;
      most = few c.more_from-got.new.buf (applies_within c.apply-r.ensures) (omega arith) c.loop-at.invariant.most;
    }

pub returns : goal.returns
returns c =
    let all : c.loop-at.at ≡ c.args.kept = omega arith in
    applied_up_to all (from_none (no_store_is c.no_store-state.ensures) c.no_heads-heads.ensures c.loop-at.invariant.applying)
