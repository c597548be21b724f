-- What the proofs of the calls, the journal, the gauge and the tick cite; and that memory that is all 0 holds no store (`no_records`).
use mathlib.Core.Path.{◌≡◌, refl, sym, ap, ◌∙◌, subst}
use mathlib.Core.Bool.{Bool, true, false, cond, beq}
use mathlib.Core.List.{List, [], ◌++◌, append-nil}
use Rattle.std.specs.Prelude.{Option, Some, None}
use Prim.Native.Nat.{ℕ}
use native.Mathlib.Omega.{arith}
use lib.ListN.{length, drop}
use lib.Seq.{drop-length}
use Rattle.queue.specs.declared.Answer.{Answer}
use Rattle.queue.specs.Told.{told, ok}
use Rattle.queue.specs.Told as T
use Rattle.queue.specs.Calls.{Refused}
use Rattle.records.specs.Words.{QueueWords, Sound, count}
use Rattle.delay_queue.specs.declared.Call.{Call}
use Rattle.delay_queue.specs.declared.Call.TheVariants as C
use Rattle.delay_queue.specs.Claims.{Judging, CallClaim}
use Rattle.run.specs.declared.Why.{Why}
use Rattle.run.specs.Groups.{command_words, answer_words, GroupIs}
use Rattle.run.specs.Run.{RunClaim}
use Rattle.run.proofs.laws.Once.{one_run}
use Rattle.writing.specs.Writing.{Wrote}
use Rattle.entries.specs.declared.Step.TheVariants as S
use Rattle.entries.specs.Entries.{step_bytes}
use Rattle.entries.specs.Writing.{blank}
use Rattle.entries.proofs.laws.Writing.{wrote_as}
use Rattle.journal.specs.Journal as J
use Rattle.journal.specs.Journal.{Acts, opened, open_twice, closed, not_open, written}
use Rattle.tick.specs.Claims.{TickSomeClaim, now_of}
use Rattle.ngawdrelo.specs.Inner.{TickClaim, patch_step}
use Rattle.gauge.specs.declared.Gauge.{Gauge}
use Rattle.words.specs.Words.{WrittenAs, is_set, flag_word, FlagKept, gauge_of, NoteClaim}
use Rattle.words.proofs.laws.Flags.{flag_says, flag_kept}
use Rattle.ngawdrelo.specs.Face.{Told, Faced, no_command, ActsOn, asks, none, Patches}

-- the words of an answer that the claim allows
pub said : {C : Answer → Type 0} {w : List ℕ} (a : Answer) → w ≡ answer_words (told a) → C a → Told C w
said a e x = record { what = a; is = e; holds = x }

-- "Before an accepted f all others answer `no 2`": where n is 0 there is no store
pub no_records : {s : QueueWords} → count s ≡ 0 → Sound s → ⊥
no_records e S = omega (arith, S.standing.fits.some, e)

pub no_store : {s s' : QueueWords} {a : Answer} {On : Type 0} → count s ≡ 0 → Judging s a s' On → Refused 2 s a s'
no_store e J = J.bad (no_records e)

-- a call is a run of one command, whose answer has all the room
pub run_faced : {s s' : QueueWords} {cs out w : List ℕ} {n : ℕ} {why : Why} (c : Call) → cs ≡ command_words c → length out ≡ 6 → RunClaim s cs out n why s' w
    → Faced (CallClaim c s) w s'
run_faced {s} {s'} {cs} {out} {w} {n} {why} c q z A =
    let r = one_run c (subst (λ (l : List ℕ). RunClaim s l out n why s' w) q A) (omega arith) in
    let behind : drop 6 out ≡ [] = ap (λ (k : ℕ). drop k out) (sym z) ∙ drop-length out in
    let v = answer_words (told r.0) in
    said r.0 (r.2 ∙ ap (λ (l : List ℕ). v ++ l) behind ∙ append-nil v) r.1

-- ---- the journal

-- the room of a list of bytes, of which the first `size` count
room_of : {l text : List ℕ} {size : ℕ} {bytes : List ℕ} → Wrote blank 0 l (length l) bytes → l ≡ text → size ≡ length l → Wrote blank 0 text size bytes
room_of {text = text} {bytes = bytes} W e n =
    subst (λ (k : ℕ). Wrote blank 0 text k bytes) (sym n) (wrote_as refl e W)

module _ {g : List ℕ} {r : Option Call} {s s' : QueueWords} {w : List ℕ} {size : ℕ} {l bytes : List ℕ} (I : GroupIs g r) where
  pub acts_asked : (c : Call) → r ≡ Some c → Faced (CallClaim c s) w s' → (b : Answer) → WrittenAs w b → l ≡ written (S.Asks c) (told b)
      → Wrote blank 0 l (length l) bytes → size ≡ length l → ActsOn g s w s' size bytes
  unfolding written
  acts_asked c e F b f q W n =
      let h = q ∙ ap (λ (z : Bool). cond z [] (step_bytes (S.Asks c))) (f (told F.what) F.is) in
      asks c (I.asks c e) (said F.what F.is (λ p. record { text = l; acts = record { acts = J.asks F.holds; writes = h }; stands = room_of W refl n }))

  pub acts_none : r ≡ None → w ≡ no_command → s' ≡ s → l ≡ [] → Wrote blank 0 l (length l) bytes → size ≡ length l → ActsOn g s w s' size bytes
  acts_none e q z h W n = none (I.not e) q z (room_of W h n)

-- it is refused where it is so already
acts_patch : (b p : Bool) {s : QueueWords} {a : Answer} → told a ≡ cond (beq p b) (T.no 13) T.ok → Acts p s (patch_step b) a b s
acts_patch true true e = open_twice e
acts_patch true false e = opened e
acts_patch false true e = closed e
acts_patch false false e = not_open e

pub patched : (n : ℕ) (b : Bool) {m size : ℕ} {w l bytes : List ℕ} (a : Answer) → w ≡ answer_words (told a)
    → told a ≡ cond (beq (is_set n) b) (T.no 13) T.ok → l ≡ written (patch_step b) (told a) → Wrote blank 0 l (length l) bytes → size ≡ length l
    → m ≡ flag_word n b
    → Patches (patch_step b) n m w size bytes
patched n b {l = l} a q e h W k f =
    record {
      acts = said a q (λ s.
          record {
            text = l;
            acts = record { acts = subst (λ (p : Bool). Acts (is_set n) s (patch_step b) a p s) (sym (flag_says n b f)) (acts_patch b (is_set n) e); writes = h };
            stands = room_of W refl k;
          });
      word = flag_kept n b f;
    }

-- ---- the gauge

-- it is kept as it was made
pub note_kept : {g : Gauge} {now : ℕ} {w : List ℕ} (n : ℕ) {m : ℕ} (r : Gauge) → m ≡ flag_word n r.any → NoteClaim g now w r
    → NoteClaim g now w (gauge_of r.smoothed r.worst m) × FlagKept n m
note_kept {g} {now} {w} n r f N = (
  subst (λ (b : Bool). NoteClaim g now w (record { smoothed = r.smoothed; worst = r.worst; any = b })) (sym (flag_says n r.any f)) N,
  flag_kept n r.any f,
)

-- ---- the tick: the call that was asked is a poll with a limit, at the now that the board polls with

pub polled_some : {M : ℕ → Call → Type 0} {time tick limit time' : ℕ} {a : Answer} {s s' : QueueWords}
    → ((n : ℕ) (c : Call) → M n c → c ≡ C.PollSome (now_of n s.hand s.until) limit) → TickClaim M time s tick a time' s'
    → TickSomeClaim time s tick limit a time' s'
polled_some {a = a} {s = s} {s' = s'} f T =
    record {
      past = T.past;
      taken = λ h. let m = T.taken h in (subst (λ (c : Call). CallClaim c s a s') (f _ _ m.0.made) m.0.done, m.1);
    }
