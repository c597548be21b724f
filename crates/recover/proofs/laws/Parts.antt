-- What the small parts of the code find: how long a step is, and whether there is a store after it.
use mathlib.Core.Path.{◌≡◌, refl, sym, ap, ◌∙◌, subst}
use mathlib.Core.Bool.{Bool, true, false, not, false≢true}
use mathlib.Core.List.{List}
use Prim.Native.Nat.{ℕ, ◌^◌, ◌≤◌, ◌<◌}
use native.Mathlib.Omega.{arith}
use borrow.Author.Tests.{not-true, not-false}
use lib.ListN.{length, take}
use Rattle.std.specs.Prelude.{Some, None}
use Rattle.contracts.specs.Tells.{Tells}
use Rattle.places.specs.declared.Tops.{Tops}
use Rattle.wheel.specs.declared.Wheel.{Wheel}
use Rattle.records.proofs.laws.Lent.{place_words_of, stacked_same}
use Rattle.queue.specs.declared.Answer.{Answer}
use Rattle.records.specs.Slices.{Slices, slices_of, Room, Fits}
use Rattle.records.specs.Words.{QueueWords, words, Sound}
use Rattle.delay_queue.specs.declared.Call.{Call}
use Rattle.delay_queue.specs.declared.Call.TheVariants as C
use Rattle.delay_queue.specs.Claims.{CallClaim}
use Rattle.delay_queue.specs.NoStore.{NoStoreClaim}
use Rattle.promises.proofs.laws.NoStore.{no_store_once}
use Rattle.run.specs.declared.Why.{Why}
use Rattle.run.specs.Groups.{command_words}
use Rattle.run.specs.Run.{RunClaim}
use Rattle.run.proofs.laws.Once.{one_run}
use Rattle.entries.specs.declared.Step.{Step}
use Rattle.entries.specs.declared.Step.TheVariants as S
use Rattle.entries.proofs.laws.Writing.{entry_length, pair_size}
use Rattle.recover.specs.Replay.{size, no_wheel, no_heads, without_store, found, ReplayClaim}
use Rattle.recover.specs.declared.Seen.{Seen}
use Rattle.recover.specs.Scan.{Short, enough, short, at_start, Scans, ScanClaim}
use Rattle.recover.specs.Apply.{Makes, asked, opened, closed, Applies}
use Rattle.recover.proofs.laws.Known.{Known}
use Rattle.recover.proofs.laws.Scan.{scans_came, scans_replays}
use Rattle.recover.proofs.laws.Apply.{applies_once, replay_applies}

-- ---- sizes

pub size_as : {x y : Step} {k : ℕ} → x ≡ y → k ≡ size y → k ≡ size x
size_as e h = h ∙ ap (λ (z : Step). size z) (sym e)

-- an open and a close have one entry
pub size_patch : (x : Step) → ((c : Call) → x ≡ S.Asks c → ⊥) → 18 ≡ size x
size_patch (S.Asks c) f = absurd (f c refl)
size_patch S.Open f = sym (entry_length 7 0 0)
size_patch S.Close f = sym (entry_length 8 0 0)

-- and so has a call, if it is no insert and has any
pub size_entry : (c : Call) → ((value when period : ℕ) → c ≡ C.Insert value when period → ⊥) → (c ≡ C.Wake → ⊥) → (c ≡ C.Length → ⊥)
    → 18 ≡ size (S.Asks c)
size_entry (C.Format n turn) f g h = sym (entry_length 1 n turn)
size_entry (C.Insert value when period) f g h = absurd (f value when period refl)
size_entry (C.Reset key when) f g h = sym (entry_length 3 key when)
size_entry (C.Remove key) f g h = sym (entry_length 4 key 0)
size_entry (C.Poll now) f g h = sym (entry_length 5 now 0)
size_entry (C.PollSome now limit) f g h = sym (entry_length 11 now limit)
size_entry C.Wake f g h = absurd (g refl)
size_entry C.Length f g h = absurd (h refl)
size_entry C.Clear f g h = sym (entry_length 6 0 0)

pub size_insert : (value when period : ℕ) → period ≡ 0 → 18 ≡ size (S.Asks (C.Insert value when period))
size_insert value when period e = sym (ap (λ (p : ℕ). size (S.Asks (C.Insert value when p))) e ∙ entry_length 2 value when)

pub size_repeat : (value when period : ℕ) → (period ≡ 0 → ⊥) → 36 ≡ size (S.Asks (C.Insert value when period))
size_repeat value when period f = sym (pair_size value when period (omega arith))

-- ---- whether a format fits

pub not_none : {l : Slices} {n : ℕ} → n ≡ 0 → Short (Fits l n) (Some 1)
not_none e = short (λ f. omega (arith, f.some))

pub not_many : {l : Slices} {n : ℕ} → 65535 < n → Short (Fits l n) (Some 1)
not_many e = short (λ f. omega (arith, f.few))

pub no_room : {l : Slices} {n : ℕ} {b : Bool} → Tells (Room n l) b → not b ≡ true → Short (Fits l n) (Some 1)
no_room {b = b} T e = short (λ f. T.no (not-true b e) f.room)

pub fits_so : {l : Slices} {n : ℕ} {b : Bool} → (n ≡ 0 → ⊥) → n ≤ 65535 → Tells (Room n l) b → not b ≡ false → Short (Fits l n) None
fits_so {b = b} z h T e = enough (record { some = omega arith; few = h; room = T.yes (not-false b e) })

-- ---- one step asked

pub asked_makes : {s s' : QueueWords} {x : Step} {c : Call} (a : Answer) → x ≡ S.Asks c → CallClaim c s a s' → Makes x s s'
asked_makes {s} {s'} a e A = subst (λ (y : Step). Makes y s s') (sym e) (asked a A)

-- as a run of one command
pub run_makes : {s s' : QueueWords} {x : Step} {c : Call} {cs out o : List ℕ} {n : ℕ} {why : Why} → x ≡ S.Asks c → cs ≡ command_words c
    → RunClaim s cs out n why s' o → 6 ≤ length out → Makes x s s'
run_makes {s} {s'} {c = c} {out = out} {o} {n} {why} e q A h =
    let r = one_run c (subst (λ (l : List ℕ). RunClaim s l out n why s' o) q A) h in
    asked_makes r.0 e r.1

pub opened_makes : {s : QueueWords} {x : Step} → x ≡ S.Open → Makes x s s
opened_makes {s} e = subst (λ (y : Step). Makes y s s) (sym e) opened

pub closed_makes : {s : QueueWords} {x : Step} → x ≡ S.Close → Makes x s s
closed_makes {s} e = subst (λ (y : Step). Makes y s s) (sym e) closed

-- the heads, handed on as an array
pub applies_heads : {l : List ℕ} {n : ℕ} {s' : QueueWords} (w : Wheel) {st : Tops} {hh hh' : List (List ℕ)} (vs ds ns ps ts ms : List ℕ)
    → st ≡ w.tops → hh' ≡ hh → Applies l (place_words_of st (words w hh' vs ds ns ps ts ms)) n s' → Applies l (words w hh vs ds ns ps ts ms) n s'
applies_heads {l} {n} {s'} w vs ds ns ps ts ms q e A =
    subst (λ (h : List (List ℕ)). Applies l (words w h vs ds ns ps ts ms) n s') e (subst (λ s. Applies l s n s') (stacked_same q) A)

-- ---- no store

pub no_store_is : {w : Wheel} → NoStoreClaim w → w ≡ no_wheel
no_store_is N =
    no_store_once N
    (record { elapsed = refl; occupied = refl; records = refl; expired = refl; free = refl; parking = refl; hand = refl; until = refl })

-- "from no store": it has no record
no_store_not_sound : (vs ds ns ps ts ms : List ℕ) → Sound (without_store vs ds ns ps ts ms) → ⊥
no_store_not_sound vs ds ns ps ts ms S = omega (arith, S.standing.fits.some)

no_store_known : (vs ds ns ps ts ms : List ℕ) → Known (slices_of vs ds ns ps ts ms) false (without_store vs ds ns ps ts ms)
no_store_known vs ds ns ps ts ms =
    record {
      live = record { yes = λ (e : false ≡ true). absurd (false≢true e); no = λ e. no_store_not_sound vs ds ns ps ts ms };
      forth = λ n x. x;
      back = λ n x. x;
    }

-- a scan of all bytes, from no store, and its kept bytes, applied to it
pub scans_applied : {l : List ℕ} (vs ds ns ps ts ms : List ℕ) {s : Seen} {n : ℕ} {t : QueueWords} → Scans (slices_of vs ds ns ps ts ms) l at_start s
    → Applies (take s.kept l) (without_store vs ds ns ps ts ms) n t
    → ReplayClaim l (without_store vs ds ns ps ts ms) (found s.kept s.at s.ending t)
scans_applied {l} vs ds ns ps ts ms {s} S A =
    let f = scans_replays S (no_store_known vs ds ns ps ts ms) (without_store vs ds ns ps ts ms) in
    subst (λ (u : QueueWords). ReplayClaim l (without_store vs ds ns ps ts ms) (found s.kept s.at s.ending u)) (applies_once (replay_applies f.1) A).1
    f.1

-- all bytes of a slice are scanned
pub all_scanned : {z : Slices} {l : List ℕ} {s t : Seen} → s ≡ at_start → length l < 2 ^ 64 → ScanClaim z l s t → Scans z l at_start t
all_scanned {z} {l} {t = t} e h C =
    (subst (λ (r : Seen). ScanClaim z l r t) e C).reads (record { cut = refl; within = omega arith; few = omega arith })

pub kept_within : {z : Slices} {l : List ℕ} {s : Seen} → Scans z l at_start s → s.kept ≤ length l
kept_within S = let C = scans_came S in omega (arith, C.at, C.within, C.kept (omega arith))

pub replayed : {l : List ℕ} (w : Wheel) {hh : List (List ℕ)} (vs ds ns ps ts ms : List ℕ) {s : Seen} {n : ℕ} {t : QueueWords} → NoStoreClaim w
    → hh ≡ no_heads → Scans (slices_of vs ds ns ps ts ms) l at_start s
    → Applies (take s.kept l) (words w hh vs ds ns ps ts ms) n t
    → ReplayClaim l (without_store vs ds ns ps ts ms) (found s.kept s.at s.ending t)
replayed {l} w vs ds ns ps ts ms {s} {n} {t} N q S A =
    scans_applied vs ds ns ps ts ms S
    (subst (λ (z : Wheel × List (List ℕ)). Applies (take s.kept l) (words z.0 z.1 vs ds ns ps ts ms) n t) (λ i. (no_store_is N i, q i)) A)
