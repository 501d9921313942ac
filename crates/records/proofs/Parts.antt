-- Parts of a table.
use Rattle.std.proofs.Common.{◌≡◌, ℕ, ◌+◌, ◌-◌, ◌<◌, ◌≤◌, List, length, Some, None, Option, MatchOption, take, drop, get_or, sym, ap, ◌∙◌, arith, length-drop, zero-add}
use Rattle.std.proofs.lemmas.List.{get_or-take, get_or-drop, length-take-le}
use Rattle.records.specs.declared.record.Record.{Record}
use Rattle.records.specs.Tables.{blank, node_at, At}

pub get_or-part : (a b i : ℕ) (work : List Record) → i < b - a → get_or (take (b - a) (drop a work)) i blank ≡ get_or work (a + i) blank
get_or-part a b i work h = get_or-take (b - a) (drop a work) i blank h ∙ get_or-drop a work i blank

module _ (a b : ℕ) (work part : List Record) (ab : a ≤ b) (len : length part ≡ b - a)
    (is_part : (i : ℕ) → i < b - a → node_at part i ≡ node_at work (a + i)) (v : ℕ)
    (none : At (node_at part) 0 (length part) v → ⊥) where
  none_of : At (node_at work) a b v → ⊥
  none_of (j, lo, hi, is) =
      let back : a + (j - a) ≡ j = omega arith in
      none (j - a, omega arith, omega arith, is_part (j - a) (omega arith) ∙ (ap (node_at work) back ∙ is))

-- none of the first records has a node
pub none_in_front : (n v : ℕ) (work : List Record) → n ≤ length work
    → (At (node_at (take n work)) 0 (length (take n work)) v → ⊥) → At (node_at work) 0 n v → ⊥
none_in_front n v work le =
    none_of 0 n work (take n work) (omega arith) (omega (arith, length-take-le n work le))
    (λ i h. ap (λ r. r.node) (get_or-take n work i blank (omega arith)) ∙ ap (node_at work) (sym (zero-add i))) v

-- none from place a on and below b has it
pub none_in_part : (a b v : ℕ) (work : List Record) → a ≤ b → b ≤ length work
    → (At (node_at (take (b - a) (drop a work))) 0 (length (take (b - a) (drop a work))) v → ⊥) → At (node_at work) a b v → ⊥
none_in_part a b v work ab le =
    let inside : b - a ≤ length (drop a work) = omega (arith, length-drop a work) in
    none_of a b work (take (b - a) (drop a work)) ab (length-take-le (b - a) (drop a work) inside)
    (λ i h. ap (λ r. r.node) (get_or-part a b i work h)) v

-- what is found among the first records
pub found_in_front : (n v : ℕ) (work : List Record) → n ≤ length work → (r : Option ℕ)
    → MatchOption r (At (node_at (take n work)) 0 (length (take n work)) v → ⊥) (λ i. (i < length (take n work)) × (node_at (take n work) i ≡ v))
    → MatchOption r (At (node_at work) 0 n v → ⊥) (λ i. (i < n) × (node_at work i ≡ v))
found_in_front n v work le None none = none_in_front n v work le none
found_in_front n v work le (Some i) (lt, is) =
    let h : i < n = omega (arith, length-take-le n work le) in
    (h, sym (ap (λ r. r.node) (get_or-take n work i blank h)) ∙ is)
