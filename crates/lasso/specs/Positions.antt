-- Lassos: a list of elements, of which those from a loop place on repeat for ever. The elements before it are the stem,
-- so the loop place is the stem's length.
use Rattle.std.specs.Prelude.{ℕ, suc, ◌+◌, ◌-◌, ◌%◌, ◌<◌, ◌≤◌, Bool, cond, ◌&&◌, List, length, nat_le, nat_lt, slice_index_or}

-- a lasso of n elements with a stem of j: its limits
pub record IsLasso (n j : ℕ) : Type 0 where
  pub some_elements : 1 ≤ n
  pub few_elements : n ≤ 131072
  pub loops : j < n

-- the same as a test
abbrev pub is_lasso : ℕ → ℕ → Bool
is_lasso n j = nat_le 1 n && (nat_le n 131072 && nat_lt j n)

-- the place at which position k stands, in a lasso of n elements with a stem of j
abbrev pub place : ℕ → ℕ → ℕ → ℕ
place n j k = cond (nat_lt k n) k (j + (k - j) % (n - j))

-- the place after place p: the last is followed by the loop place
abbrev pub after : ℕ → ℕ → ℕ → ℕ
after n j p = cond (nat_lt (suc p) n) (suc p) j

-- the element at position k, where the default stands for an element of no place
abbrev pub element : {A : Type 0} → List A → ℕ → A → ℕ → A
element xs j default k = slice_index_or xs (place (length xs) j k) default
