-- What each command does to what has been read.
use Rattle.std.proofs.Common.{◌≡◌, true, false, ◌||◌, ℕ, suc, ◌+◌, ◌≤◌, ◌<◌, List, [], ◌∷◌, ◌++◌, length, take, drop, set, Float, Result, Ok, Err, refl, sym, ◌∙◌, arith, add-one, length-take-le}
use Rattle.std.proofs.Math.Seq.{take-suc-set}
use lib.Dec.{eqb, ltb}
use borrow.Author.Tests.{le-leb, lt-leb, eq-eqb, ne_eqb}
use Rattle.foundation.specs.Numbers.{of_pattern}
use Rattle.foundation.specs.Job.{Reading, Next, more, little_endian, operand, cut_short, misplaced, max_job_n, read_n, read_r, read_e, read_b, read_p, read_z}
use Rattle.job_commands.specs.declared.progress.Progress.{Progress}
use Rattle.job_commands.specs.declared.refusal.JobRefusal.{JobRefusal}
use Rattle.job_commands.specs.declared.refusal.JobRefusal.TheVariants.{Limits, Misplaced, CutShort, BytesBehind}
use Rattle.job_commands.specs.Stores.{JobStores}
use Rattle.job_commands.specs.Progress.{state, going_on, ending}

-- one more is written behind the first i places
module _ {ℓ} {A : Type ℓ} where
  pub written : (xs : List A) (i : ℕ) (x : A) → i < length xs → take (i + 1) (set xs i x) ≡ take i xs ++ (x ∷ [])
  written xs i x h = rw (add-one i, take-suc-set xs i x h)

-- the start behind a closed row is how many entries there are
pub starts_more : (starts columns : List ℕ) (closed entries : ℕ) → closed + 1 < length starts → entries ≤ length columns
    → take (suc (closed + 1)) (set starts (closed + 1) entries) ≡ take (suc closed) starts ++ (length (take entries columns) ∷ [])
starts_more starts columns closed entries h k = rw (take-suc-set starts (closed + 1) entries h, add-one closed, length-take-le entries columns k)

-- ---- operands

-- an operand that is there
operand-read : (size : ℕ) (bytes rest : List ℕ) (then : ℕ → List ℕ → Next) → size ≤ length bytes → rest ≡ drop size bytes
    → operand size bytes then ≡ then (little_endian (take size bytes)) rest
unfolding operand
operand-read size bytes rest then h e = rw (le-leb size (length bytes) h, e)

-- one that is cut short
pub operand-cut : {r : Result Progress JobRefusal} (s : JobStores) (size : ℕ) (bytes : List ℕ) (then : ℕ → List ℕ → Next) → r ≡ Err CutShort
    → length bytes < size → going_on r s ≡ operand size bytes then
unfolding operand going_on cut_short
operand-cut s size bytes then e h = rw (e, lt-leb size (length bytes) h)

module _ (r : Reading) (bytes rest : List ℕ) where
  -- ---- commands with a u16, `value`

  module _ (value : ℕ) (there : 2 ≤ length bytes) (read : value ≡ little_endian (take 2 bytes)) (left : rest ≡ drop 2 bytes) where
    pub n_refused : (s : JobStores) → eqb value 0 || ltb max_job_n value ≡ true → going_on (Err Limits) s ≡ read_n r bytes
    unfolding going_on read_n
    n_refused s t = sym (operand-read 2 bytes rest _ there left ∙ rw (← read, t))

    pub n_read : eqb value 0 || ltb max_job_n value ≡ false → more (record r { n = value; open_row = false }) rest ≡ read_n r bytes
    unfolding read_n
    n_read t = sym (operand-read 2 bytes rest _ there left ∙ rw (← read, t))

    pub r_refused : (s : JobStores) → (value ≡ suc (length r.right) → ⊥) → going_on (Err Misplaced) s ≡ read_r r bytes
    unfolding going_on read_r misplaced
    r_refused s t = sym (operand-read 2 bytes rest _ there left ∙ rw (← read, ne_eqb value (suc (length r.right)) t))

    pub r_read : value ≡ suc (length r.right) → more (record r { open_row = true }) rest ≡ read_r r bytes
    unfolding read_r
    r_read t = sym (operand-read 2 bytes rest _ there left ∙ rw (← read, eq-eqb value (suc (length r.right)) t))

    pub p_read : (rows : List ℕ) → rows ≡ r.rows ++ (value ∷ []) → more (record r { open_row = false; rows = rows }) rest ≡ read_p r bytes
    unfolding read_p
    p_read rows e = sym (operand-read 2 bytes rest _ there left ∙ rw (← read, e))

  -- ---- commands with an f64, `value`

  module _ (value : Float) (there : 8 ≤ length bytes) (read : value ≡ of_pattern (little_endian (take 8 bytes))) (left : rest ≡ drop 8 bytes) where
    pub b_read : (starts : List ℕ) (right : List Float) → starts ≡ r.starts ++ (length r.columns ∷ []) → right ≡ r.right ++ (value ∷ [])
        → more (record r { open_row = false; starts = starts; right = right }) rest ≡ read_b r bytes
    unfolding read_b
    b_read starts right e f = sym (operand-read 8 bytes rest _ there left ∙ rw (← read, e, f))

  -- ---- E: a column and a value

  pub e_read : (middle : List ℕ) (column : ℕ) (value : Float) → 2 ≤ length bytes → column ≡ little_endian (take 2 bytes) → middle ≡ drop 2 bytes
      → 8 ≤ length middle → value ≡ of_pattern (little_endian (take 8 middle)) → rest ≡ drop 8 middle → (columns : List ℕ) (values : List Float)
      → columns ≡ r.columns ++ (column ∷ []) → values ≡ r.values ++ (value ∷ [])
      → more (record r { open_row = true; columns = columns; values = values }) rest ≡ read_e r bytes
  unfolding read_e
  e_read middle column value there read left there' read' left' columns values e f =
      sym (operand-read 2 bytes middle _ there left ∙ operand-read 8 middle rest _ there' left' ∙ rw (← read, ← read', e, f))

  -- E whose value is cut short
  pub e_cut : {n : Result Progress JobRefusal} (s : JobStores) (middle : List ℕ) → 2 ≤ length bytes → middle ≡ drop 2 bytes → n ≡ Err CutShort → length middle < 8
      → going_on n s ≡ read_e r bytes
  unfolding read_e
  e_cut s middle there left e h = operand-cut s 8 middle _ e h ∙ sym (operand-read 2 bytes middle _ there left)

-- ---- Z

pub z_done : (p : Progress) (s : JobStores) (bytes : List ℕ) → length bytes < 1 → ending (Ok tt) p s ≡ read_z (state p s) bytes
unfolding ending read_z
z_done p s [] h = refl
z_done p s (b ∷ bytes) h = absurd (omega arith)

pub z_refused : (p : Progress) (s : JobStores) (bytes : List ℕ) → 1 ≤ length bytes → ending (Err BytesBehind) p s ≡ read_z (state p s) bytes
unfolding ending read_z
z_refused p s [] h = absurd (omega arith)
z_refused p s (b ∷ bytes) h = refl
