-- A component is moved up, to end where what is done begins.
use Rattle.std.proofs.Common.{◌≡◌, ℕ, ◌+◌, ◌-◌, ◌<◌, ◌≤◌, List, length, get_or, take, drop, ◌++◌, ap, ◌∙◌, arith}
use Rattle.std.proofs.lemmas.List.{get_or_append_left, get_or-append_right, get_or-take, get_or-drop, length-take-le}
use Rattle.records.specs.declared.record.Record.{Record}
use Rattle.records.specs.WorkTables.{CopiedTo, Risen}
use Rattle.records.specs.Tables.{blank, node_at, letter_at, measure_at}

-- a table with other records in place of k of them from place a on
module _ (a k : ℕ) (xs ys : List Record) (inside : a + k ≤ length xs) (same : length ys ≡ k) where
  front : length (take a xs) ≡ a
  front = length-take-le a xs (omega arith)

  put_low : (i : ℕ) → i < a → get_or (take a xs ++ (ys ++ drop k (drop a xs))) i blank ≡ get_or xs i blank
  put_low i h = get_or_append_left (take a xs) (ys ++ drop k (drop a xs)) blank i (omega (arith, front)) ∙ get_or-take a xs i blank h

  put_inner : (i : ℕ) → i < k → get_or (take a xs ++ (ys ++ drop k (drop a xs))) (a + i) blank ≡ get_or ys i blank
  put_inner i h =
      let e : a + i - a ≡ i = omega arith in
      get_or-append_right (take a xs) (ys ++ drop k (drop a xs)) a (a + i) blank front (omega arith)
      ∙ (ap (λ x. get_or (ys ++ drop k (drop a xs)) x blank) e ∙ get_or_append_left ys (drop k (drop a xs)) blank i (omega arith))

  put_high : (i : ℕ) → a + k ≤ i → get_or (take a xs ++ (ys ++ drop k (drop a xs))) i blank ≡ get_or xs i blank
  put_high i h =
      let e : a + (k + (i - a - k)) ≡ i = omega arith in
      get_or-append_right (take a xs) (ys ++ drop k (drop a xs)) a i blank front (omega arith)
      ∙ (get_or-append_right ys (drop k (drop a xs)) k (i - a) blank same (omega arith)
      ∙ (get_or-drop k (drop a xs) (i - a - k) blank ∙ (get_or-drop a xs (k + (i - a - k)) blank ∙ ap (λ x. get_or xs x blank) e)))

-- `mid` is the table where the component is copied up already, and `part` has its measure too
module _ (size top cur measure done : ℕ) (was mid part : List Record) (some : cur ≤ size) (stack : size ≤ top) (table : top ≤ length was)
    (place : done ≡ top - (size - cur)) (copy : CopiedTo cur size done was mid)
    (count : length part ≡ top - done)
    (nodes : (k : ℕ) → node_at part k ≡ node_at (take (top - done) (drop done mid)) k)
    (values : (k : ℕ) → k < length part → (letter_at part k ≡ 0) × (measure_at part k ≡ measure)) where
  low : (k : ℕ) → k < done → get_or (take done mid ++ (part ++ drop (top - done) (drop done mid))) k blank ≡ get_or was k blank
  low k h = put_low done (top - done) mid part (omega (arith, copy.same_length)) count k (omega arith) ∙ copy.below k (omega arith)

  high : (k : ℕ) → top ≤ k → get_or (take done mid ++ (part ++ drop (top - done) (drop done mid))) k blank ≡ get_or was k blank
  high k h = put_high done (top - done) mid part (omega (arith, copy.same_length)) count k (omega arith) ∙ copy.above k (omega arith)

  node_up : (i : ℕ) → i < size - cur → node_at part i ≡ node_at was (cur + i)
  node_up i h =
      let e : cur + (done + i - done) ≡ cur + i = omega arith in
      nodes i
      ∙ ap (λ r. r.node)
      (get_or-take (top - done) (drop done mid) i blank (omega arith)
      ∙ (get_or-drop done mid i blank ∙ (copy.copied (done + i) (omega arith) (omega arith) ∙ ap (λ x. get_or was x blank) e)))

  pub risen : Risen size top cur measure was (take done mid ++ (part ++ drop (top - done) (drop done mid)))
  risen =
      record {
        below = λ k h. let e = low k (omega (arith, place, h)) in (ap (λ r. r.node) e, ap (λ r. r.letter) e, ap (λ r. r.measure) e);
        moved =
            λ k lo hi. let to : k + (top - size) ≡ done + (k - cur) = omega arith in
            let from : cur + (k - cur) ≡ k = omega arith in
            let e = ap (λ x. get_or (take done mid ++ (part ++ drop (top - done) (drop done mid))) x blank) to
            ∙ put_inner done (top - done) mid part (omega (arith, copy.same_length)) count (k - cur) (omega arith) in (
              ap (λ r. r.node) e ∙ (node_up (k - cur) (omega arith) ∙ ap (node_at was) from),
              ap (λ r. r.letter) e ∙ (values (k - cur) (omega arith)).0,
              ap (λ r. r.measure) e ∙ (values (k - cur) (omega arith)).1,
            );
        done = λ k lo hi. let e = high k lo in (ap (λ r. r.node) e, ap (λ r. r.letter) e, ap (λ r. r.measure) e);
      }
