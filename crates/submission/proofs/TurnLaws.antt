-- Chains and loops over the modules.
--     all_listed, all_range     a test at each value of a list by index, and at each number
--     filled_more               one value more in the front of a table
--     read_module, next_data    the module that a turn reads, and where the next one's data begins
-- Assumes nothing.
use mathlib.Core.Path.{◌≡◌, refl, ap, sym, ◌∙◌}
use mathlib.Core.Bool.{Bool, and-true}
use mathlib.Core.List.{List, [], ◌∷◌, ◌++◌, map}
use Prim.Native.Nat.{ℕ, zero, suc, ◌+◌, ◌-◌, ◌<◌}
use native.Mathlib.Nat.{zero-add}
use native.Mathlib.Numerals.{add-one}
use native.Mathlib.Omega.{arith}
use lib.ListN.{set, length, replicate}
use Rattle.std.specs.List.{list_all, range_with_len}
use Rattle.std.proofs.lemmas.List.{set-append_left, length-append, length-replicate}
use Rattle.std.proofs.lemmas.List.Folds.{list_all-append, list_all-map}
use Rattle.std.proofs.lemmas.List.FromFn.{map-range_with_len_more}
use Rattle.laws.specs.Table.{listed, table}
use Rattle.laws.specs.Tests.{all_from}
use Rattle.laws.proofs.TableLaws.{table_more, length_listed}
use Rattle.submission.specs.Format.{data_start}
use Rattle.submission.specs.Layout.{table_entry, module_from, module_of}
use Rattle.submission.specs.FormatLaws.{data_behind_string}
use Rattle.submission.specs.declared.read.TableEntry.{TableEntry}
use Rattle.submission.specs.declared.Module.{Module}

pub all_listed : {A : Type 0} (p : A → Bool) (f : ℕ → A) (n : ℕ) → list_all p (listed f n) ≡ all_from (λ i. p (f i)) 0 n
unfolding all_from listed
all_listed p f zero = refl
all_listed p f (suc n) = rw (list_all-append p (listed f n) (f n ∷ []), all_listed p f n, and-true, zero-add) refl

numbered : {A : Type 0} (f : ℕ → A) (n : ℕ) → map f (range_with_len 0 n) ≡ listed f n
unfolding listed
numbered f zero = refl
numbered f (suc n) = (rw add-one at (map-range_with_len_more f 0 n n (zero-add n))) ∙ ap (λ (xs : List _). xs ++ (f n ∷ [])) (numbered f n)

pub all_range : (f : ℕ → Bool) (n : ℕ) → list_all f (range_with_len 0 n) ≡ all_from f 0 n
all_range f n = sym (list_all-map (λ b. b) f (range_with_len 0 n)) ∙ ap (list_all (λ b. b)) (numbered f n) ∙ all_listed (λ b. b) f n

-- a table whose front is being filled: one value more
pub filled_more : {A : Type 0} (f : ℕ → A) (k : ℕ) (z : A) (i : ℕ) (xs ys : List A) (x : A) → i < length xs → xs ++ ys ≡ table f i k z → x ≡ f i → set xs i x ++ ys ≡ table f (i + 1) k z
filled_more f k z i xs ys x l e q =
    let h : i < k = omega (arith, ap length e, length-append xs ys, length-append (listed f i) (replicate (k - i) z), length_listed f i, length-replicate (k - i) z) in
    sym (set-append_left xs ys i x l) ∙ rw (e, q) (table_more f k z i h)

-- the loop reads the entry e, and r is its module with the data from `at` on
module _ (s : List ℕ) (i at : ℕ) (e : TableEntry) (r : Module) (d : at ≡ data_start s i) (q : e ≡ table_entry s i) (p : r ≡ module_from at e) where
  pub read_module : r ≡ module_of s i
  read_module = p ∙ ap (λ (a : ℕ). module_from a e) d ∙ ap (module_from (data_start s i)) q

  pub next_data : r.string.at + r.string.len ≡ data_start s (i + 1)
  next_data = ap (λ (m : Module). m.string.at + m.string.len) read_module ∙ sym (data_behind_string s i)
