-- What is found at a position of a lasso.
use Rattle.std.specs.Prelude.{◌≡◌, ℕ, ◌<◌, List, length}
use Rattle.lasso.specs.Positions.{IsLasso, place, after, element}

-- in a lasso of n elements with a stem of j, position k stands at place p
pub record PlaceAt (n j k p : ℕ) : Type 0 where
  pub lasso : IsLasso n j
  pub is : p ≡ place n j k
  pub below : p < n

-- there, place q comes after place p
pub record PlaceAfter (n j p q : ℕ) : Type 0 where
  pub lasso : IsLasso n j
  pub is : q ≡ after n j p
  pub below : q < n

-- x is the element at position k, whatever the default
pub record ElementAt {A : Type 0} (xs : List A) (j k : ℕ) (x : A) : Type 0 where
  pub lasso : IsLasso (length xs) j
  pub is : (default : A) → x ≡ element xs j default k
