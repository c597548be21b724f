-- No answer and no word below N depends on words past N, nor on what the slices held before format. A claim of a store is one of the store that is cut to
-- its N records (`call_cut`), which are the same for both, and allows one answer and one content there (`call_once`).
use mathlib.Core.Path.{◌≡◌, refl, sym, ap, ◌∙◌, subst, subst₂}
use mathlib.Core.Logic.{◌≢◌, by_cases}
use mathlib.Core.Bool.{false, true≢false}
use mathlib.Core.List.{List, [], ◌∷◌, map, nil≢cons}
use lib.ListN.{length}
use Prim.Native.Nat.{ℕ, ◌<◌}
use native.Mathlib.Omega.{arith}
use borrow.Author.Tests.{lt-ltb}
use Rattle.links.specs.Lists.{Mem}
use Rattle.records.specs.Slices.{Fits}
use Rattle.records.specs.View.{View}
use Rattle.records.specs.Records.{Names}
use Rattle.records.specs.Words.{QueueWords, view, slices, Sound, PastKept}
use Rattle.records.specs.Format.{InRange}
use Rattle.records.proofs.laws.View.{view_eq}
use Rattle.queue.specs.declared.Answer.{Answer}
use Rattle.queue.specs.Told.{told}
use Rattle.queue.specs.Told as T
use Rattle.queue.specs.Calls.{Refused}
use Rattle.delay_queue.specs.declared.Call.{Call}
use Rattle.delay_queue.specs.declared.Call.TheVariants as C
use Rattle.delay_queue.specs.Claims.{first, fresh, Formatted, FormatClaim, CallClaim}
use Rattle.promises.specs.OneCall.{is_no, one}
use Rattle.promises.specs.Keys.{asked}
use Rattle.promises.specs.Runs.{Asked, Runs, rest, next, All, is_format}
use Rattle.promises.specs.Alike.{cut, Alike, Matched, neither, alike, SameRoom, Lasts, longer}
use Rattle.promises.proofs.laws.Decided.{fits_dec, range_dec}
use Rattle.promises.proofs.laws.Once.{told_one}
use Rattle.promises.proofs.laws.Met.{format_met}
use Rattle.promises.proofs.laws.OneCall.{call_once, call_met, past_kept, one_made, one_sound}
use Rattle.promises.proofs.laws.Refused.{unsound_refused}
use Rattle.promises.proofs.laws.Runs.{run_met}
use Rattle.promises.proofs.laws.Cut.{below, below_ext, masked, views_alike, alike_views}
use Rattle.promises.proofs.laws.CutCalls.{call_cut}

-- ---- format

first_lt : (n x : ℕ) (f : ℕ → ℕ) {i : ℕ} → i < n → first n x f i ≡ x
unfolding first
first_lt n x f {i} h = rw (lt-ltb i n h)

-- what a format leaves of N records does not depend on what it found
fresh_masked : (n turn : ℕ) (v w : View) → masked (fresh n turn v) ≡ masked (fresh n turn w)
fresh_masked n turn v w =
    let e : (x : ℕ) (f g : ℕ → ℕ) → below n (first n x f) ≡ below n (first n x g)
    = λ x f g. below_ext n (first n x f) (first n x g) (λ i h. first_lt n x f h ∙ sym (first_lt n x g h)) in
    view_eq refl refl refl (e 0 v.value w.value) (e 0 v.period w.period) (e 0 v.deadline w.deadline) (e turn v.turn w.turn)

formatted_alike : {s t s' t' : QueueWords} {n turn : ℕ} {a b : Answer} → Formatted s n turn a s' → Formatted t n turn b t' → (a ≡ b) × Alike s' t'
formatted_alike {s} {t} {n = n} {turn = turn} {a = a} {b = b} F G = (
  told_one a b (F.told ∙ sym G.told),
  views_alike F.sound G.sound
      (ap (λ v. masked v) F.view ∙ fresh_masked n turn (view s) (view t) ∙ sym (ap (λ v. masked v) G.view)),
)

-- a format that is not refused found room, and its turn in range
pub format_taken : {s s' : QueueWords} {n turn : ℕ} {a : Answer} → FormatClaim s n turn a s' → is_no (told a) ≡ false → Fits (slices s) n × InRange turn
format_taken {s} {n = n} {turn = turn} {a = a} F e =
    by_cases (fits_dec s n)
    (λ x. by_cases (range_dec turn) (λ y. (x, y)) (λ f. absurd (not_no (F.outside x f).told)))
    (λ f. absurd (not_no (F.short f).told))
  where
    not_no : {k : ℕ} → told a ≡ T.no k → ⊥
    not_no q = true≢false (sym (ap is_no q) ∙ e)

-- no answer and no word below N depends on what the slices held before format: two accepted ones, whatever they found
pub format_alike : (n turn : ℕ) (s t s' t' : QueueWords) (a b : Answer) → CallClaim (C.Format n turn) s a s' → CallClaim (C.Format n turn) t b t'
    → is_no (told a) ≡ false → is_no (told b) ≡ false → (a ≡ b) × Alike s' t'
format_alike n turn s t s' t' a b A B e f =
    let x = format_taken A e in
    formatted_alike (A.done x.0 x.1) (B.done (format_taken B f).0 x.1)

-- ---- any call

-- a format, or another call
by_format : (P : Call → Type 0) → ((n turn : ℕ) → P (C.Format n turn)) → ((c : Call) → is_format c ≡ false → P c) → (c : Call) → P c
by_format P f g (C.Format n turn) = f n turn
by_format P f g (C.Insert value when period) = g (C.Insert value when period) refl
by_format P f g (C.Reset key when) = g (C.Reset key when) refl
by_format P f g (C.Remove key) = g (C.Remove key) refl
by_format P f g (C.Poll now) = g (C.Poll now) refl
by_format P f g (C.PollSome now limit) = g (C.PollSome now limit) refl
by_format P f g C.Wake = g C.Wake refl
by_format P f g C.Length = g C.Length refl
by_format P f g C.Clear = g C.Clear refl

module _ (R : QueueWords → QueueWords → Type 0) {s t s' t' : QueueWords} {a b : Answer} (A : R s t) where
  both_refused : {k : ℕ} → Refused k s a s' → Refused k t b t' → (a ≡ b) × R s' t'
  both_refused X Y = (told_one a b (X.told ∙ sym Y.told), subst₂ R (sym X.same) (sym Y.same) A)

  both_format : (n turn : ℕ) → (Alike s' t' → R s' t') → SameRoom (C.Format n turn) s t → FormatClaim s n turn a s' → FormatClaim t n turn b t'
      → (a ≡ b) × R s' t'
  both_format n turn made room X Y =
      by_cases (fits_dec s n)
      (λ F.
      let G = (room refl).0 F in
      by_cases (range_dec turn)
      (λ I. let B = formatted_alike (X.done F I) (Y.done G I) in (B.0, made B.1))
      (λ f. both_refused (X.outside F f) (Y.outside G f)))
      (λ f. both_refused (X.short f) (Y.short (λ G. f ((room refl).1 G))))

-- no answer and no word below N depends on words past N: the same call on two stores that differ only there gets the same answer, and leaves two such
-- stores
pub call_alike : Lasts Alike
call_alike c s t s' t' a b A =
    by_format (λ c. SameRoom c s t → CallClaim c s a s' → CallClaim c t b t' → (a ≡ b) × Alike s' t')
    (λ n turn. both_format Alike A n turn (λ B. B))
    (λ c f room X Y.
    let Z : CallClaim c (cut t) a (cut s') = subst (λ u. CallClaim c u a (cut s')) A.same (call_cut c s a s' f X) in
    let o = call_once c (cut t) a b (cut s') (cut t') Z (call_cut c t b t' f Y) in
    (o.0, record { same = o.1 }))
    c

-- nor on what the slices held before there was a store
pub call_matched : Lasts Matched
call_matched c s t s' t' a b (alike A) room X Y = let B = call_alike c s t s' t' a b A room X Y in (B.0, alike B.1)
call_matched c s t s' t' a b (neither f g) room X Y =
    by_format (λ c. SameRoom c s t → CallClaim c s a s' → CallClaim c t b t' → (a ≡ b) × Matched s' t')
    (λ n turn. both_format Matched (neither f g) n turn alike)
    (λ c e room X Y.
    let x = unsound_refused c s a s' X e f in
    let y = unsound_refused c t b t' Y e g in
    both_refused Matched (neither f g) {k = 2} (record { told = x.0; same = x.1 }) (record { told = y.0; same = y.1 }))
    c room X Y

-- so keys name the same timers in other slices too
pub names_alike : {s t : QueueWords} → Alike s t → Sound s → {k r p : ℕ} → Names (view s) k r p
    → Names (view t) k r p × ((view s).value r ≡ (view t).value r) × ((view s).period r ≡ (view t).period r) × ((view s).deadline r ≡ (view t).deadline r)
names_alike {s} {t} A S {k} {r} {p} N =
    let W = alike_views A S in
    let h = N.below in (
      record {
        number = N.number;
        below = rw (← W.size) h;
        pending = record { timed = N.pending.timed; member = subst (λ L. Mem r (L p)) W.lists N.pending.member };
        turn = sym (W.turn r h) ∙ N.turn;
      },
      W.value r h,
      W.period r h,
      W.deadline r h,
    )

-- ---- runs

-- lengths never change, so that as many records have room
pub fits_kept : {m n : ℕ} {s t : QueueWords} → PastKept m s t → (Fits (slices s) n → Fits (slices t) n) × (Fits (slices t) n → Fits (slices s) n)
fits_kept K = (λ F. omega arith, λ F. omega arith)

room_kept : (c : Call) {m k : ℕ} {s t s' t' : QueueWords} → PastKept m s s' → PastKept k t t' → SameRoom c s t → SameRoom c s' t'
room_kept c K M R e = (λ F. (fits_kept M).0 ((R e).0 ((fits_kept K).1 F)), λ F. (fits_kept K).0 ((R e).1 ((fits_kept M).1 F)))

rooms_kept : {m k : ℕ} {s t s' t' : QueueWords} → PastKept m s s' → PastKept k t t' → (l : List Asked) → All (λ x. SameRoom x.call s t) l
    → All (λ x. SameRoom x.call s' t') l
rooms_kept K M [] R = tt
rooms_kept K M (x ∷ l) R = (room_kept x.call K M R.0, rooms_kept K M l R.1)

module _ (R : QueueWords → QueueWords → Type 0) (step : Lasts R) where
  -- the same calls get the same answers, where each format finds room in the slices of both or of neither
  pub runs_keep : {s t s' t' : QueueWords} {l m : List Asked} → Runs s l s' → Runs t m t' → map (λ x. x.call) l ≡ map (λ x. x.call) m → R s t
      → All (λ x. SameRoom x.call s t) l → (l ≡ m) × R s' t'
  runs_keep rest rest e A Z = (refl, A)
  runs_keep rest (next Y q) e A Z = absurd (nil≢cons e)
  runs_keep (next X r) rest e A Z = absurd (nil≢cons (sym e))
  runs_keep (next {s} {t = u} {x = x} {l = l} X r) (next {s = t} {t = w} {x = y} {l = m} Y q) e A Z =
      let c : x.call ≡ y.call = cc in
      let d : map (λ z. z.call) l ≡ map (λ z. z.call) m = cc in
      let O : CallClaim x.call t y.answer w = subst (λ f. CallClaim f t y.answer w) (sym c) Y in
      let B = step x.call s t u w x.answer y.answer A Z.0 X O in
      let K = past_kept x.call s x.answer u X in
      let M = past_kept x.call t y.answer w O in
      let o = runs_keep r q d B.1 (rooms_kept K M l Z.1) in
      (λ i. record { call = c i; answer = B.0 i } ∷ o.0 i, o.1)

  -- and there is such a run
  pub run_keeps : {s t s' : QueueWords} {l : List Asked} → Runs s l s' → R s t → All (λ x. SameRoom x.call s t) l
      → (t' : QueueWords) × Runs t l t' × R s' t'
  run_keeps {t = t} {l = l} r A Z =
      let m = run_met t (map (λ x. x.call) l) in
      let o = runs_keep r m.3 (sym m.2) A Z in
      (m.1, subst (λ k. Runs t k m.1) (sym o.0) m.3, o.1)

-- a run, in other slices that have the words of the N records: the same answers, and stores that differ only past N
pub run_alike : {s t s' : QueueWords} {l : List Asked} → Runs s l s' → Alike s t → All (λ x. SameRoom x.call s t) l
    → (t' : QueueWords) × Runs t l t' × Alike s' t'
run_alike r A Z = run_keeps Alike call_alike r A Z

-- 02 [9]: "from no store, into slices long enough": whatever they hold. Until a format is accepted there is a store in neither
pub run_matched : {s t s' : QueueWords} {l : List Asked} → Runs s l s' → (Sound s → ⊥) → (Sound t → ⊥) → All (λ x. SameRoom x.call s t) l
    → (t' : QueueWords) × Runs t l t' × Matched s' t'
run_matched r f g Z = run_keeps Matched call_matched r (neither f g) Z

-- and after it there is one in both
pub matched_sound : {s t : QueueWords} → Matched s t → Sound s → Alike s t
matched_sound (neither f g) S = absurd (f S)
matched_sound (alike A) S = A

-- from an accepted format on, in any slices with room for N: whatever they held before it
pub run_formatted : (n turn : ℕ) {s t s' : QueueWords} {a : Answer} {l : List Asked} → Runs s (asked (C.Format n turn) a ∷ l) s'
    → is_no (told a) ≡ false → Fits (slices t) n → All (λ x. SameRoom x.call s t) l
    → (t' : QueueWords) × Runs t (asked (C.Format n turn) a ∷ l) t' × Alike s' t'
run_formatted n turn {t = t} {a = a} {l = l} (next {s} {t = u} X r) e F R =
    let c = C.Format n turn in
    let m = call_met c t in
    let x = format_taken X e in
    let B = formatted_alike (X.done x.0 x.1) (m.2.done F x.1) in
    let Y : CallClaim c t a m.1 = subst (λ b. CallClaim c t b m.1) (sym B.0) m.2 in
    let o = run_alike r B.1 (rooms_kept (past_kept c s a u X) (past_kept c t a m.1 Y) l R) in
    (o.0, next Y o.1, o.2)

-- ---- such stores there are: one record, formatted in slices of other lengths

pub alike_shown : (s : QueueWords) × (t : QueueWords) × Sound s × Alike s t × (s ≢ t)
alike_shown =
    let m = format_met longer 1 1 in
    let F = m.2.done longer_fits (record { some = omega arith; last = omega arith }) in
    let apart : one ≢ m.1 = λ e. omega (arith, ap (λ u. length u.turns) e, one_made.kept.turns.size, F.kept.turns.size) in
    (one, m.1, one_sound, (formatted_alike one_made F).1, apart)
  where
    longer_fits : Fits (slices longer) 1
    longer_fits =
        record {
          some = omega arith;
          few = omega arith;
          room = record {
            values = omega arith;
            deadlines = omega arith;
            links = record { nexts = omega arith; prevs = omega arith; marks = omega arith };
            turns = omega arith;
          };
        }
