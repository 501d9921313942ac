-- The test of a lasso passes exactly within its limits.
use Rattle.std.specs.Prelude.{◌≡◌, ℕ, true, ◌&&◌, nat_le, nat_lt}
use Rattle.std.proofs.lemmas.Bool.{and_parts, and_from, le-leb, leb-true, lt-ltb, ltb-true}
use Rattle.lasso.specs.Positions.{IsLasso, is_lasso}

pub lasso_true : (n j : ℕ) → is_lasso n j ≡ true → IsLasso n j
lasso_true n j e =
    let a = and_parts (nat_le 1 n) (nat_le n 131072 && nat_lt j n) e in
    let b = and_parts (nat_le n 131072) (nat_lt j n) a.1 in
    record {
      some_elements = leb-true 1 n a.0;
      few_elements = leb-true n 131072 b.0;
      loops = ltb-true j n b.1;
    }

pub lasso_from : (n j : ℕ) → IsLasso n j → is_lasso n j ≡ true
lasso_from n j h =
    and_from (nat_le 1 n) (nat_le n 131072 && nat_lt j n) (le-leb 1 n h.some_elements)
    (and_from (nat_le n 131072) (nat_lt j n) (le-leb n 131072 h.few_elements) (lt-ltb j n h.loops))
