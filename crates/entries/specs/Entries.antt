-- The entries of the journal, in document 02's words.
use Rattle.std.specs.Prelude.{List, [], ◌++◌, ℕ, zero, suc, ◌*◌, ◌^◌, ◌<◌}
use Rattle.writing.specs.Writing.{digits_of}
use Rattle.delay_queue.specs.declared.Call.TheVariants as C
use Rattle.entries.specs.declared.Step.{Step}
use Rattle.entries.specs.declared.Step.TheVariants as S

-- the last k bytes of x, "most significant first"
abbrev pub bytes_of : ℕ → ℕ → List ℕ
bytes_of k x = digits_of (λ (d : ℕ). d) 256 k x

-- "18 bytes each, bit-packed, most significant first: kind in 4 bits, 12 zero bits, two 64-bit fields"
unfoldable pub entry : ℕ → ℕ → ℕ → List ℕ
entry kind a b = bytes_of 2 (kind * 4096) ++ (bytes_of 8 a ++ bytes_of 8 b)

-- "2 insert (value, when)"; "A repeating insert is kind 9 (value, when) followed at once by kind 10 (period over 0, 0), one call together"
abbrev pub insert_bytes : ℕ → ℕ → ℕ → List ℕ
insert_bytes value when zero = entry 2 value when
insert_bytes value when (suc p) = entry 9 value when ++ entry 10 (suc p) 0

-- "Kinds: 1 format (N, turn), 2 insert (value, when), 3 reset (key, when), 4 remove (key, 0), 5 poll (now, 0), 6 clear, 7 open patch,
-- 8 close patch; 6 to 8 carry two zeros"; 02 [10], of the poll with a limit: "In the journal each such call is kind 11 (now, limit)": the
-- bytes of a step. NextStep wake and length have none
abbrev pub step_bytes : Step → List ℕ
step_bytes (S.Asks (C.Format n turn)) = entry 1 n turn
step_bytes (S.Asks (C.Insert value when period)) = insert_bytes value when period
step_bytes (S.Asks (C.Reset key when)) = entry 3 key when
step_bytes (S.Asks (C.Remove key)) = entry 4 key 0
step_bytes (S.Asks (C.Poll now)) = entry 5 now 0
step_bytes (S.Asks (C.PollSome now limit)) = entry 11 now limit
step_bytes (S.Asks C.Wake) = []
step_bytes (S.Asks C.Length) = []
step_bytes (S.Asks C.Clear) = entry 6 0 0
step_bytes S.Open = entry 7 0 0
step_bytes S.Close = entry 8 0 0

-- "two 64-bit fields": the numbers of a step fit them
abbrev pub Fits64 : ℕ → Type 0
Fits64 x = x < 2 ^ 64

abbrev pub Fit : Step → Type 0
Fit (S.Asks (C.Format n turn)) = Fits64 n × Fits64 turn
Fit (S.Asks (C.Insert value when period)) = Fits64 value × Fits64 when × Fits64 period
Fit (S.Asks (C.Reset key when)) = Fits64 key × Fits64 when
Fit (S.Asks (C.Remove key)) = Fits64 key
Fit (S.Asks (C.Poll now)) = Fits64 now
Fit (S.Asks (C.PollSome now limit)) = Fits64 now × Fits64 limit
Fit (S.Asks C.Wake) = Unit
Fit (S.Asks C.Length) = Unit
Fit (S.Asks C.Clear) = Unit
Fit S.Open = Unit
Fit S.Close = Unit
