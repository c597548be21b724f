-- Each claim allows one answer and one final content: "no second answer could satisfy it", for every input, refused calls too.
use mathlib.Core.Path.{◌≡◌, refl, sym, ap, ◌∙◌, subst}
use mathlib.Core.Logic.{by_cases}
use mathlib.Core.List.{List, [], ◌∷◌, nil≢cons}
use mathlib.Core.Option.{Option, some, some-injective, some-ne-none}
use Prim.Native.Nat.{ℕ, ◌≤◌, ◌<◌}
use native.Mathlib.Decide.{ℕ_discrete, dec_lt}
use native.Mathlib.Omega.{arith}
use Rattle.links.specs.Lists.{nobody}
use Rattle.links.specs.Whole.{Kept}
use Rattle.places.specs.Places.{free}
use Rattle.wheel.proofs.laws.Next.{list_one, list_not_none}
use Rattle.wheel.proofs.laws.One.{polls_one}
use Rattle.wheel.specs.declared.Wheel.{Wheel}
use Rattle.queue.specs.declared.Answer.{Answer}
use Rattle.queue.specs.declared.Answer.TheVariants as A
use Rattle.queue.specs.Told.{Told, told}
use Rattle.queue.specs.Told as T
use Rattle.records.specs.View.{View}
use Rattle.records.specs.Records.{At, freed, left}
use Rattle.queue.specs.Steps.{TakesOut, GoesOn, once, again, ended, QueuePolls, polled, popped, handed, nothing, Wakes, sleeps, starts, NextWake, at_once, from_wheel, Clears, begun, kept, gave}
use Rattle.records.specs.Words.{QueueWords, words, count, elapsed, view, AtRest, Sound, PastKept, Standing}
use Rattle.records.proofs.laws.Words.{view_fixed}
use Rattle.records.proofs.laws.Inner.{mark_at, left_size, placed_size, freed_size}
use Rattle.queue.specs.Calls.{Refused, Answered, InsertOn, ResetOn, RemoveOn, PollOn, Freely, Resuming, RestOn, SomeOn, PollSomeOn, ClearOn}
use Rattle.pausing.proofs.laws.Pausing.{polls_one as polls-some-one, rest_one}
use Rattle.records.proofs.laws.Cases.{by_deadline, by_key}
use Rattle.promises.proofs.laws.Decided.{sound_dec, fits_dec, range_dec}
use Rattle.promises.proofs.laws.Met.{clear_one}
use Rattle.delay_queue.specs.Claims.{Formatted, FormatClaim, Judging, InsertClaim, ResetClaim, RemoveClaim, PollClaim, PollSomeClaim, WakeClaim, LengthClaim, ClearClaim}
use Rattle.queue.proofs.laws.Polls.{polls_size, some_size, rest_size, clears_size}
use Rattle.promises.specs.Once.{Lent}

-- ---- an answer is what it tells: `told` loses nothing

untold : Told → Answer
untold T.ok = A.Done
untold (T.key k) = A.Key k
untold (T.gone v d) = A.Gone v d
untold (T.out k v d m n) = A.Out k v d m n
untold (T.last k v d m n) = A.Last k v d m n
untold (T.none m n) = A.Nothing m n
untold (T.yet m n) = A.NotYet m n
untold (T.wake t) = A.Wake t
untold T.never = A.NoWake
untold (T.len n) = A.Length n
untold (T.no n) = A.No n

untold_told : (a : Answer) → untold (told a) ≡ a
unfolding untold
untold_told A.Done = refl
untold_told (A.Key k) = refl
untold_told (A.Gone v d) = refl
untold_told (A.Out k v d m n) = refl
untold_told (A.Last k v d m n) = refl
untold_told (A.Nothing m n) = refl
untold_told (A.NotYet m n) = refl
untold_told (A.Wake t) = refl
untold_told A.NoWake = refl
untold_told (A.Length n) = refl
untold_told (A.No n) = refl

pub told_one : (a a' : Answer) → told a ≡ told a' → a ≡ a'
told_one a a' e = sym (untold_told a) ∙ ap untold e ∙ untold_told a'

-- ---- the words of a store are the state, the heads and every lent slice, and nothing else

pub words_one : (w : Wheel) (hh : List (List ℕ)) (vs ds ns ps ts ms : List ℕ) (w' : Wheel) (hh' : List (List ℕ))
    (vs' ds' ns' ps' ts' ms' : List ℕ)
    → words w hh vs ds ns ps ts ms ≡ words w' hh' vs' ds' ns' ps' ts' ms' → Lent w hh vs ds ns ps ts ms w' hh' vs' ds' ns' ps' ts' ms'
words_one w hh vs ds ns ps ts ms w' hh' vs' ds' ns' ps' ts' ms' e =
    record {
      state = λ i. record {
        elapsed = (e i).wheel.elapsed;
        occupied = (e i).wheel.occupied;
        tops = (e i).wheel.places.tops;
        hand = (e i).hand;
        until = (e i).until;
      };
      heads = λ i. (e i).wheel.places.heads;
      values = λ i. (e i).values;
      deadlines = λ i. (e i).deadlines;
      nexts = λ i. (e i).wheel.places.links.nexts;
      prevs = λ i. (e i).wheel.places.links.prevs;
      turns = λ i. (e i).turns;
      marks = λ i. (e i).wheel.places.links.marks;
    }

-- one answer, one final content
abbrev pub Same : Answer → QueueWords → Answer → QueueWords → Type 0
Same a t a' t' = (a ≡ a') × (t ≡ t')

-- ---- a refusal, and an accepted call

one_refusal : {s t t' : QueueWords} {a a' : Answer} {n : ℕ} → Refused n s a t → Refused n s a' t' → Same a t a' t'
one_refusal {a = a} {a' = a'} R Q = (told_one a a' (R.told ∙ sym Q.told), R.same ∙ sym Q.same)

-- two that keep the same words keep each other's
kept_from : {n : ℕ} {l m k : List ℕ} → Kept n l m → Kept n l k → Kept n m k
kept_from A B = record { size = B.size ∙ sym A.size; past = λ j h. B.past j h ∙ sym (A.past j h) }

pub past_from : {n : ℕ} {s t u : QueueWords} → PastKept n s t → PastKept n s u → PastKept n t u
past_from A B =
    record {
      links = record {
        nexts = kept_from A.links.nexts B.links.nexts;
        prevs = kept_from A.links.prevs B.links.prevs;
        marks = kept_from A.links.marks B.links.marks;
      };
      values = kept_from A.values B.values;
      deadlines = kept_from A.deadlines B.deadlines;
      turns = kept_from A.turns B.turns;
    }

-- the view and the words past N leave no choice
pub kept_once : {n : ℕ} {s t u : QueueWords} → Sound t → Sound u → view u ≡ view t → count t ≡ n → PastKept n s t → PastKept n s u → u ≡ t
kept_once {t = t} {u = u} S U e n A B = view_fixed S U e (subst (λ m. PastKept m t u) (sym n) (past_from A B))

-- and so with the answer
answered_once : {s t t' : QueueWords} {a a' : Answer} {x : Told} {v : View} → v.n ≡ count s → Answered s a x v t → Answered s a' x v t'
    → Same a t a' t'
answered_once {t = t} {t' = t'} {a = a} {a' = a'} n A B = (
  told_one a a' (A.told ∙ sym B.told),
  kept_once B.sound A.sound (A.view ∙ sym B.view) (ap (λ v. v.n) B.view ∙ n) B.kept A.kept,
)

judging_once : {s t t' : QueueWords} {a a' : Answer} {On On' : Type 0} → Judging s a t On → Judging s a' t' On'
    → (Sound s → On → On' → Same a t a' t')
    → Same a t a' t'
judging_once {s} J K f = by_cases (sound_dec s) (λ S. f S (J.good S) (K.good S)) (λ n. one_refusal (J.bad n) (K.bad n))

-- while a poll is in hand they are refused with 12
freely_once : {s t t' : QueueWords} {a a' : Answer} {On On' : Type 0} → Freely s a t On → Freely s a' t' On' → (AtRest s → On → On' → Same a t a' t')
    → Same a t a' t'
freely_once {s} J K f =
    by_cases (ℕ_discrete s.hand nobody) (λ z. f z (J.free z) (K.free z)) (λ d. one_refusal (J.held d) (K.held d))

-- ---- insert, reset, remove

module _ {s t t' : QueueWords} {a a' : Answer} where
  module _ {value when period : ℕ} where
    insert_on : InsertOn s value when period a t → InsertOn s value when period a' t' → Same a t a' t'
    insert_on C D = by ((view s).lists free) refl
      where
        by : (l : List ℕ) → (view s).lists free ≡ l → Same a t a' t'
        by [] e = one_refusal (C.full e) (D.full e)
        by (r ∷ l) e =
            by_deadline (elapsed s) when
            (λ f. one_refusal (C.old r l e f) (D.old r l e f))
            (λ f. one_refusal (C.far r l e f) (D.far r l e f))
            (λ f. answered_once (placed_size r when _) (C.done r l e f) (D.done r l e f))

    pub insert_once : InsertClaim s value when period a t → InsertClaim s value when period a' t' → (a ≡ a') × (t ≡ t')
    insert_once C D = judging_once C D (λ S x y. freely_once x y (λ z. insert_on))

  module _ {key when : ℕ} where
    reset_on : Sound s → ResetOn s key when a t → ResetOn s key when a' t' → Same a t a' t'
    reset_on S C D =
        by_key S key
        (λ r p N.
        by_deadline (elapsed s) when
        (λ f. one_refusal (C.old r p N f) (D.old r p N f))
        (λ f. one_refusal (C.far r p N f) (D.far r p N f))
        (λ f. answered_once (placed_size r when _ ∙ left_size p r (view s)) (C.done r p N f) (D.done r p N f)))
        (λ f. one_refusal (C.dead f) (D.dead f))

    pub reset_once : ResetClaim s key when a t → ResetClaim s key when a' t' → (a ≡ a') × (t ≡ t')
    reset_once C D = judging_once C D (λ S x y. freely_once x y (λ z. reset_on S))

  module _ {key : ℕ} where
    remove_on : Sound s → RemoveOn s key a t → RemoveOn s key a' t' → Same a t a' t'
    remove_on S C D = by_key S key (λ r p N. answered_once (freed_size r _ ∙ left_size p r (view s)) (C.done r p N) (D.done r p N))
        (λ f. one_refusal (C.dead f) (D.dead f))

    pub remove_once : RemoveClaim s key a t → RemoveClaim s key a' t' → (a ≡ a') × (t ≡ t')
    remove_once C D = judging_once C D (λ S x y. freely_once x y (λ z. remove_on S))

-- ---- poll

-- what a poll takes out, and the view with it in no list
record OneTaken (o : Option ℕ) (m n : ℕ) (u : View) (o' : Option ℕ) (m' n' : ℕ) (u' : View) : Type 0 where
  got : o ≡ o'
  moves : m ≡ m'
  drains : n ≡ n'
  view : u ≡ u'

takes_one : {v : View} {now : ℕ} {got got' : Option ℕ} {m n m' n' : ℕ} {u u' : View} → TakesOut v now got m n u → TakesOut v now got' m' n' u'
    → OneTaken got m n u got' m' n' u'
takes_one {v} (popped {r} {l} e) (popped {r = q} {l = k} f) =
    let a : r ≡ q = cc in
    let b : l ≡ k = cc in
    record { got = ap some a; moves = refl; drains = refl; view = rw b }
takes_one (popped e) (polled f P) = absurd (nil≢cons (sym f ∙ e))
takes_one (polled e P) (popped f) = absurd (nil≢cons (sym e ∙ f))
takes_one (polled e P) (polled f Q) =
    let S = polls_one P Q in
    record { got = S.got; moves = S.moves; drains = S.drains; view = rw (S.elapsed, S.lists) }

-- what becomes of the record, and the answer
goes_on_one : {v : View} {r m n : ℕ} {u : View} {x y : Told} {w w' : View} → GoesOn v r m n u x w → GoesOn v r m n u y w' → (x ≡ y) × (w ≡ w')
goes_on_one (once z) (once z') = (refl, refl)
goes_on_one (once z) (again p f) = absurd (omega arith)
goes_on_one (once z) (ended p f) = absurd (omega arith)
goes_on_one (again p f) (once z) = absurd (omega arith)
goes_on_one (again p f) (again p' f') = (refl, refl)
goes_on_one (again p f) (ended p' g) = absurd (f g)
goes_on_one (ended p f) (once z) = absurd (omega arith)
goes_on_one (ended p f) (again p' g) = absurd (g f)
goes_on_one (ended p f) (ended p' f') = (refl, refl)

queue_polls_one : {v : View} {now : ℕ} {x y : Told} {u w : View} → QueuePolls v now x u → QueuePolls v now y w → (x ≡ y) × (u ≡ w)
queue_polls_one {v} (handed {r} T G) (handed {r = q} T' G') =
    let O = takes_one T T' in
    let a : r ≡ q = some-injective r q O.got in
    goes_on_one G (rw (a, O.moves, O.drains, O.view) G')
queue_polls_one (handed T G) (nothing T') = absurd (some-ne-none _ (takes_one T T').got)
queue_polls_one (nothing T) (handed T' G') = absurd (some-ne-none _ (takes_one T' T).got)
queue_polls_one (nothing T) (nothing T') = let O = takes_one T T' in (rw (O.moves, O.drains), O.view)

module _ {s t t' : QueueWords} {a a' : Answer} where
  module _ {time : ℕ} where
    poll_on : PollOn s time a t → PollOn s time a' t' → Same a t a' t'
    poll_on C D =
        by_cases (dec_lt time (elapsed s))
        (λ h. one_refusal (C.back h) (D.back h))
        (λ h.
        let g : elapsed s ≤ time = omega arith in
        let c = C.done g in
        let d = D.done g in
        let q = queue_polls_one c.1 d.1 in
        (told_one a a' q.0, kept_once d.0 c.0 q.1 (polls_size d.1) d.2 c.2))

    -- it goes on with the poll in hand
    rest_on : RestOn s time a t → RestOn s time a' t' → Same a t a' t'
    rest_on c d =
        let q = rest_one c.1 d.1 in
        (told_one a a' q.0, kept_once d.0 c.0 q.1 (rest_size d.1) d.2 c.2)

    some_on : {limit : ℕ} → SomeOn s time limit a t → SomeOn s time limit a' t' → Same a t a' t'
    some_on c d =
        let q = polls-some-one c.1 d.1 in
        (told_one a a' q.0, kept_once d.0 c.0 q.1 (some_size d.1) d.2 c.2)

    begin_on : {limit : ℕ} → PollSomeOn s time limit a t → PollSomeOn s time limit a' t' → Same a t a' t'
    begin_on C D =
        by_cases (dec_lt time (elapsed s))
        (λ h. one_refusal (C.back h) (D.back h))
        (λ h. some_on (C.done (omega arith)) (D.done (omega arith)))

    resuming_once : {On On' Rest Rest' : Type 0} → Resuming s time a t On Rest → Resuming s time a' t' On' Rest'
        → (AtRest s → On → On' → Same a t a' t') → (Rest → Rest' → Same a t a' t') → Same a t a' t'
    resuming_once C D f g =
        by_cases (ℕ_discrete s.hand nobody)
        (λ z. f z (C.free z) (D.free z))
        (λ d.
        by_cases (ℕ_discrete time s.until)
        (λ e. g (C.same d e) (D.same d e))
        (λ n. one_refusal (C.other d n) (D.other d n)))

    -- 02 [10]: one with a limit, of any words
    pub limited_once : {limit : ℕ} → PollSomeClaim s time limit a t → PollSomeClaim s time limit a' t' → (a ≡ a') × (t ≡ t')
    limited_once C D = judging_once C D (λ S x y. resuming_once x y (λ z. begin_on) some_on)

    pub poll_once : PollClaim s time a t → PollClaim s time a' t' → (a ≡ a') × (t ≡ t')
    poll_once C D = judging_once C D (λ S x y. resuming_once x y (λ z. poll_on) rest_on)

-- ---- next wake and length

wakes_one : {v : View} {x y : Told} → Wakes v x → Wakes v y → x ≡ y
wakes_one (sleeps E) (sleeps G) = refl
wakes_one (sleeps E) (starts X) = absurd (list_not_none X E)
wakes_one (starts X) (sleeps E) = absurd (list_not_none X E)
wakes_one (starts X) (starts Y) = ap T.wake (list_one X Y).start

next_one : {v : View} {x y : Told} → NextWake v x → NextWake v y → x ≡ y
next_one (at_once e) (at_once f) = refl
next_one (at_once e) (from_wheel f W) = absurd (nil≢cons (sym f ∙ e))
next_one (from_wheel e W) (at_once f) = absurd (nil≢cons (sym e ∙ f))
next_one (from_wheel e W) (from_wheel f X) = wakes_one W X

module _ {s : QueueWords} {a a' : Answer} where
  -- they answer alone
  answer_once : {On On' : Type 0} → Judging s a s On → Judging s a' s On' → (On → On' → told a ≡ told a') → a ≡ a'
  answer_once J K f = (judging_once J K (λ S x y. (told_one a a' (f x y), refl))).0

  pub wake_once : WakeClaim s a → WakeClaim s a' → a ≡ a'
  wake_once C D =
      (judging_once C D (λ S x y. freely_once x y (λ z u v. (told_one a a' (next_one u.done v.done), refl)))).0

  pub length_once : LengthClaim s a → LengthClaim s a' → a ≡ a'
  length_once C D = answer_once C D (λ x y. x.done ∙ sym y.done)

-- ---- format

formatted_once : {s t t' : QueueWords} {a a' : Answer} {n turn : ℕ} → Formatted s n turn a t → Formatted s n turn a' t' → Same a t a' t'
formatted_once {s} {t} {t'} {a} {a'} {n} A B =
    let d : count t' ≡ n = ap (λ v. v.n) B.view in
    (told_one a a' (A.told ∙ sym B.told), kept_once B.sound A.sound (A.view ∙ sym B.view) d B.kept A.kept)

pub format_once : {s t t' : QueueWords} {n turn : ℕ} {a a' : Answer} → FormatClaim s n turn a t → FormatClaim s n turn a' t'
    → (a ≡ a') × (t ≡ t')
format_once {s} {n = n} {turn = turn} C D =
    by_cases (fits_dec s n)
    (λ F. by_cases (range_dec turn) (λ I. formatted_once (C.done F I) (D.done F I)) (λ f. one_refusal (C.outside F f) (D.outside F f)))
    (λ f. one_refusal (C.short f) (D.short f))

-- ---- clear

-- a store that stands and has the view u, with as many records as s
record StandsAt (s : QueueWords) (u : View) : Type 0 where
  store : QueueWords
  standing : Standing store
  view : view store ≡ u
  size : count store ≡ count s

-- it goes by such stores only, where nobody is in two places
reached : {s : QueueWords} → Standing s → {k : ℕ} {u : View} → Clears (view s) k u → k ≤ count s → StandsAt s u
reached {s} S begun h = record { store = s; standing = S; view = refl; size = refl }
reached S (kept r n) h = reached S r (omega arith)
reached S (gave {k} {p} {u} r a) h =
    let R = reached S r (omega arith) in
    let g : k < count R.store = omega arith in
    let o = clear_one R.standing g in
    let G = o.1.goes p (rw R.view a) in
    record {
      store = o.0;
      standing = G.standing;
      view = G.view ∙ ap (λ w. freed k (left p k w)) R.view;
      size = G.size ∙ R.size;
    }

clears_one : {s : QueueWords} → Standing s → {k : ℕ} {u w : View} → Clears (view s) k u → Clears (view s) k w → k ≤ count s → u ≡ w
clears_one S begun begun h = refl
clears_one S (kept r n) (kept q m) h = clears_one S r q (omega arith)
clears_one S (kept r n) (gave {p = p} q b) h = absurd (n p (rw (clears_one S r q (omega arith)) b))
clears_one S (gave {p = p} r a) (kept q m) h = absurd (m p (rw (clears_one S r q (omega arith)) at a))
clears_one S (gave {k} {p} {u} r a) (gave {p = o} {u = w} q b) h =
    let e : u ≡ w = clears_one S r q (omega arith) in
    let R = reached S r (omega arith) in
    let x : At (view R.store) k p = rw R.view a in
    let y : At (view R.store) k o = rw (R.view, e) b in
    let f : p ≡ o = sym (mark_at R.standing x) ∙ mark_at R.standing y in
    rw (e, f)

module _ {s t t' : QueueWords} {a a' : Answer} where
  clear_on : Sound s → ClearOn s a t → ClearOn s a' t' → Same a t a' t'
  clear_on S C D =
      let e : C.cleared ≡ D.cleared = clears_one S.standing C.clears D.clears (omega arith) in
      answered_once (clears_size D.clears) (rw e at C.done) D.done

  pub clear_once : ClearClaim s a t → ClearClaim s a' t' → (a ≡ a') × (t ≡ t')
  clear_once C D = judging_once C D clear_on
