-- An answer that has room in a slice is the text of a reply.
use mathlib.Core.Path.{◌≡◌, ap, ◌∙◌}
use mathlib.Core.Bool.{Bool}
use mathlib.Core.Logic.{by_cases}
use mathlib.Core.List.{List, [], ◌∷◌, ◌++◌, List-discrete}
use Prim.Native.Nat.{ℕ, ◌+◌, ◌-◌, ◌≤◌, ◌<◌}
use native.Mathlib.Decide.{dec_le, dec_lt, ℕ_discrete}
use native.Mathlib.Omega.{arith}
use lib.ListN.{length, take, drop, length-append, length-drop}
use lib.Seq.{take_at, drop_at, take-add, length-take-le}
use Rattle.records.specs.Words.{QueueWords}
use Rattle.delay_queue.specs.declared.Call.{Call}
use Rattle.decimals.specs.Text.{bytes, Spaced}
use Rattle.answering.specs.Text.{Written, PutClaim}
use Rattle.answering.proofs.laws.Answering.{at_most_114}
use Rattle.bench.specs.Line.{Asks, LineClaim}
use Rattle.feed.specs.Replies.{ReplyTo}
use Rattle.feed.specs.Feed.{answer_room}

-- what stands in o' from at to end
abbrev pub between : List ℕ → ℕ → ℕ → List ℕ
between o' at end = take (end - at) (drop at o')

-- a line l was written into o at at
pub record Wrote (o : List ℕ) (at end : ℕ) (o' l : List ℕ) : Type 0 where
  pub text : between o' at end ≡ l
  pub whole : take end o' ≡ take at o ++ between o' at end
  pub forth : at < end
  pub room : end ≤ length o
  pub size : length o' ≡ length o

pub put_wrote : {w ns z o : List ℕ} {at end : ℕ} {o' : List ℕ} (p : PutClaim w ns z o at end o') → 0 < length p.line → length p.line ≤ 114
    → at + answer_room ≤ length o
    → Wrote o at end o' p.line
put_wrote {w} {ns} {z} {o} {at} {end} {o'} p some h r =
    let l = p.line in
    let q = p.room (omega arith) in
    let rest = drop (at + length l) o in
    let a : length (take at o) ≡ at = length-take-le at o (omega arith) in
    let d : drop at o' ≡ l ++ rest = ap (λ (x : List ℕ). drop at x) q.1 ∙ drop_at (take at o) (l ++ rest) at a in
    let n : length l ≡ end - at = omega (arith, q.0) in
    let t : between o' at end ≡ l = ap (λ (x : List ℕ). take (end - at) x) d ∙ take_at l rest (end - at) n in
    let b : take at o' ≡ take at o = ap (λ (x : List ℕ). take at x) q.1 ∙ take_at (take at o) (l ++ rest) at a in
    let e : end ≡ at + (end - at) = omega (arith, q.0) in
    let s : length o' ≡ length (take at o ++ (l ++ rest)) = ap (λ (x : List ℕ). length x) q.1 in
    record {
      text = t;
      whole = ap (λ (x : ℕ). take x o') e ∙ take-add at (end - at) o' ∙ ap (λ (x : List ℕ). x ++ between o' at end) b;
      forth = omega (arith, q.0);
      room = omega (arith, q.0);
      size = omega (arith, s, a, length-append (take at o) (l ++ rest), length-append l rest, length-drop (at + length l) o);
    }

pub some_bytes : {w ns z l : List ℕ} → Written w ns z l → 0 < length l
some_bytes {w} {ns} {z} {l} p =
    let t = z ++ 10 ∷ [] in
    let e : length l ≡ length (w ++ (p.rest ++ t)) = ap (λ (x : List ℕ). length x) p.line in
    omega (arith, length-append w (p.rest ++ t), length-append p.rest t, length-append z (10 ∷ []))

pub bad_4 : {l : List ℕ} → Written (bytes "bad") [] [] l → length l ≤ 114
unfolding Spaced
bad_4 {l} p =
    let e : length l ≡ length (bytes "bad" ++ (p.rest ++ 10 ∷ [])) = ap (λ (t : List ℕ). length t) p.line in
    omega (arith, length-append p.rest (10 ∷ []), ap (λ (t : List ℕ). length t) p.fields)

module _ {limits : Bool} {l o o' : List ℕ} {s s' : QueueWords} {at end : ℕ} (r : at + answer_room ≤ length o) (C : LineClaim limits l s o at s' o' end) where
  asked : (c : Call) (x : Asks limits l c) → Wrote o at end o' (C.asks c x).written.line
  asked c x =
      let a = C.asks c x in
      put_wrote a.written (some_bytes a.written.written) (at_most_114 a.answer a.written.written) r

  unasked : (f : (c : Call) → Asks limits l c → ⊥) → Wrote o at end o' (C.bad f).1.line
  unasked f =
      let b = (C.bad f).1 in
      put_wrote b (some_bytes b.written) (bad_4 b.written) r

  -- whether the line asks a call need not be known where the fact can be tested
  either : {P : Type 0} → Dec P → ((t : List ℕ) → Wrote o at end o' t → P) → P
  either d f = by_cases d (λ k. k) (λ k. absurd (k (f _ (unasked (λ c x. k (f _ (asked c x)))))))

  -- the answer in the slice is the text of the reply
  pub replied : ReplyTo limits l s (between o' at end) s'
  replied =
      record {
        asks = λ c x.
            let a = C.asks c x in
            record { answer = a.answer; done = a.done; written = rw (asked c x).text a.written.written };
        bad = λ f. let b = C.bad f in (b.0, rw (unasked f).text b.1.written);
      }

  pub reply_whole : take end o' ≡ take at o ++ between o' at end
  reply_whole = either (List-discrete ℕ_discrete (take end o') (take at o ++ between o' at end)) (λ t w. w.whole)

  pub reply_forth : at < end
  reply_forth = either (dec_lt at end) (λ t w. w.forth)

  pub reply_room : end ≤ length o
  reply_room = either (dec_le end (length o)) (λ t w. w.room)

  pub reply_size : length o' ≡ length o
  reply_size = either (ℕ_discrete (length o') (length o)) (λ t w. w.size)
