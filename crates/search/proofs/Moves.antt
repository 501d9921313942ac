-- The current place of a search looks further.
use Rattle.std.proofs.Common.{◌≡◌, ℕ, suc, ◌+◌, ◌^◌, ◌<◌, ◌≤◌, min, true, ◌⊎◌, List, length, Some, sym, refl, ap, ◌∙◌, subst, inl, inr, ⊎_elim, arith}
use Rattle.std.proofs.lemmas.Bool.{cases_eq, cases_lt}
use Rattle.graph.specs.Graphs.{Graph, Bounded}
use Rattle.numbers.specs.Least.{Least}
use Rattle.graph.specs.Walks.{Path}
use Rattle.graph.proofs.Paths.{path_edge}
use Rattle.records.specs.declared.record.Record.{Record}
use Rattle.search.specs.Changes.{Changed, Quiet, Met}
use Rattle.search.specs.Searches.{Searching, Resumed, left}
use Rattle.records.specs.Tables.{node_at, letter_at, At}
use Rattle.search.specs.Links.{low_at, up_at}
use Rattle.search.specs.Trees.{Upto, Held, Tree}
use Rattle.numbers.specs.Puts.{put}
use Rattle.numbers.proofs.Puts.{put_same, put_other, put_id}
use Rattle.search.proofs.Steps.{tree_seen}

pub fun_at : {f h : ℕ → ℕ} → f ≡ h → (k : ℕ) → f k ≡ h k
fun_at e k = ap (λ x. x k) e

pub quiet_same : (i : ℕ) (work : List Record) → Quiet i work work
quiet_same i work = record { nodes = refl; letters = λ k ne. refl; measures = λ k ne. refl }

pub quiet_join : (i : ℕ) (a b c : List Record) → Quiet i a b → Quiet i b c → Quiet i a c
quiet_join i a b c p q =
    record {
      nodes = q.nodes ∙ p.nodes;
      letters = λ k ne. q.letters k ne ∙ p.letters k ne;
      measures = λ k ne. q.measures k ne ∙ p.measures k ne;
    }

pub changed_quiet : (i l m : ℕ) (was work : List Record) → Changed i l m was work → Quiet i was work
changed_quiet i l m was work c =
    record {
      nodes = c.nodes;
      letters = λ k ne. fun_at c.letters k ∙ put_other (letter_at was) i l k ne;
      measures = c.measures;
    }

pub changed_letter : (i l m : ℕ) (was work : List Record) → Changed i l m was work → letter_at work i ≡ l
changed_letter i l m was work c = fun_at c.letters i ∙ put_same (letter_at was) i l

pub changed_low : (i l m : ℕ) (was work : List Record) → Changed i l m was work → low_at work i ≡ m
changed_low i l m was work c = fun_at c.lows i ∙ put_same (low_at was) i m

pub held_as : (g : Graph) (s top : ℕ) (was work : List Record) → length work ≡ length was → node_at work ≡ node_at was
    → Held g s top (length was) (node_at was) → Held g s top (length work) (node_at work)
held_as g s top was work len nodes h =
    subst (λ f. Held g s top (length work) f) (sym nodes) (subst (λ n. Held g s top n (node_at was)) (sym len) h)

-- a tree over the columns of a table, after a change at place i
pub tree_changed : (g : Graph) (s top cur i l m : ℕ) (at : ℕ → ℕ) (was work : List Record) → length work ≡ length was
    → Changed i l m was work
    → Tree g s top (length was) cur (node_at was) (put (letter_at was) i l) (put (low_at was) i m) (up_at was) at
    → Tree g s top (length work) cur (node_at work) (letter_at work) (low_at work) (up_at work) at
tree_changed g s top cur i l m at was work len c t =
    subst (λ f. Tree g s top (length work) cur f (letter_at work) (low_at work) (up_at work) at) (sym c.nodes)
    (subst (λ f. Tree g s top (length work) cur (node_at was) f (low_at work) (up_at work) at) (sym c.letters)
    (subst (λ f. Tree g s top (length work) cur (node_at was) (put (letter_at was) i l) f (up_at work) at) (sym c.lows)
    (subst (λ f. Tree g s top (length work) cur (node_at was) (put (letter_at was) i l) (put (low_at was) i m) f at) (sym c.ups)
    (subst (λ n. Tree g s top n cur (node_at was) (put (letter_at was) i l) (put (low_at was) i m) (up_at was) at) (sym len) t))))

module _ (g : Graph) (s top cur l m from x : ℕ) (was work : List Record) (q : Searching g s top cur from was)
    (len : length work ≡ length was) (c : Changed cur l m was work) where
  pub searching_seen : m ≤ low_at was cur → Path g (node_at was cur) (node_at was m)
      → ((w : ℕ) → Upto g (node_at was cur) l x w
      → Upto g (node_at was cur) (letter_at was cur) from w ⊎ (At (node_at was) top (length was) w ⊎ At (node_at was) m s w))
      → Searching g s top cur x work
  searching_seen falls leads more =
      record {
        at = put q.at cur x;
        held = held_as g s top was work len c.nodes q.held;
        tree =
            tree_changed g s top cur cur l m (put q.at cur x) was work len c
            (tree_seen g s top (length was) cur cur l m x (node_at was) (letter_at was) (low_at was) (up_at was) q.at q.tree
            (inl refl) (inl refl) q.tree.inside (inl refl) falls leads
            (λ w seen. subst (λ y. Upto g (node_at was cur) (letter_at was cur) y w ⊎ (At (node_at was) top (length was) w ⊎ At (node_at was) m s w))
            (sym q.frontier) (more w seen)));
        frontier = put_same q.at cur x;
      }

-- nothing is left by the letter: the next one begins
upto_turn : (g : Graph) (v l from w : ℕ) → ((w : ℕ) → from ≤ w → g.edge v l w ≡ true → ⊥) → Upto g v (l + 1) 0 w → Upto g v l from w
upto_turn g v l from w none (k, hk, e, o) = (
  k,
  hk,
  e,
  ⊎_elim
      (λ (lt : k < l + 1).
      ⊎_elim
      (λ (same : k ≡ l).
      inr (
        same,
        ⊎_elim (λ (a : w < from). a) (λ (b : from ≤ w). absurd (none w b (subst (λ y. g.edge v y w ≡ true) same e)))
            (cases_lt w from),
      ))
      (λ ne. inl (omega arith)) (cases_eq k l))
      (λ h. absurd (omega (arith, h.1))) o,
)

pub searching_turn : (g : Graph) (s top cur from : ℕ) (was work : List Record) → Searching g s top cur from was
    → length work ≡ length was → Changed cur (letter_at was cur + 1) (low_at was cur) was work
    → ((w : ℕ) → from ≤ w → g.edge (node_at was cur) (letter_at was cur) w ≡ true → ⊥)
    → Searching g s top cur 0 work
searching_turn g s top cur from was work q len c none =
    searching_seen g s top cur (letter_at was cur + 1) (low_at was cur) from 0 was work q len c (omega arith)
    (q.tree.back cur q.tree.inside).1
    (λ w seen. inl (upto_turn g (node_at was cur) (letter_at was cur) from w none seen))

-- up to the least node that follows is that node alone
pub upto_next : (g : Graph) (v l from next w : ℕ) → Least (g.edge v l) from (Some next) → Upto g v l (suc next) w
    → Upto g v l from w ⊎ (w ≡ next)
upto_next g v l from next w least (k, hk, e, o) =
    ⊎_elim (λ (lt : k < l). inl (k, hk, e, inl lt))
    (λ (same, below).
    ⊎_elim (λ (a : w < from). inl (k, hk, e, inr (same, a)))
    (λ (b : from ≤ w).
    ⊎_elim (λ (a : w < next). absurd (least.2 w b a (subst (λ y. g.edge v y w ≡ true) same e)))
    (λ (a : next ≤ w). inr (omega arith)) (cases_lt w next))
    (cases_lt w from))
    o

pub min_cases : (a b : ℕ) → (min a b ≡ a) ⊎ ((min a b ≡ b) × (b < a))
min_cases a b = ⊎_elim (λ (h : b < a). inr (omega arith, h)) (λ (h : a ≤ b). inl (omega arith)) (cases_lt b a)

-- the least node that follows is at place i of the stack already
searching_placed : (g : Graph) (s top cur from next i : ℕ) (was work : List Record) → Searching g s top cur from was
    → length work ≡ length was → letter_at was cur < g.letters
    → Least (g.edge (node_at was cur) (letter_at was cur)) from (Some next)
    → i < s → node_at was i ≡ next
    → Changed cur (letter_at was cur) (min (low_at was cur) i) was work
    → Searching g s top cur (suc next) work
searching_placed g s top cur from next i was work q len left least lt is c =
    let m = min (low_at was cur) i in
    let back = q.tree.back cur q.tree.inside in
    let leads : Path g (node_at was cur) (node_at was m) =
    ⊎_elim (λ (e : m ≡ low_at was cur). subst (λ y. Path g (node_at was cur) (node_at was y)) (sym e) back.1)
    (λ p. subst (λ y. Path g (node_at was cur) (node_at was y)) (sym p.0)
    (subst (λ y. Path g (node_at was cur) y) (sym is) (path_edge g (letter_at was cur, left, least.1))))
    (min_cases (low_at was cur) i) in
    searching_seen g s top cur (letter_at was cur) m from (suc next) was work q len c (omega arith) leads
    (λ w seen.
    ⊎_elim inl (λ (e : w ≡ next). inr (inr (i, omega arith, lt, is ∙ sym e)))
    (upto_next g (node_at was cur) (letter_at was cur) from next w least seen))

changed_same : (i : ℕ) (work : List Record) → Changed i (letter_at work i) (low_at work i) work work
changed_same i work =
    record {
      nodes = refl;
      letters = sym (put_id (letter_at work) i);
      lows = sym (put_id (low_at work) i);
      ups = refl;
      measures = λ k ne. refl;
    }

-- or it is done
searching_past : (g : Graph) (s top cur from next : ℕ) (was : List Record) → Searching g s top cur from was
    → Least (g.edge (node_at was cur) (letter_at was cur)) from (Some next)
    → At (node_at was) top (length was) next → Searching g s top cur (suc next) was
searching_past g s top cur from next was q least (i, hi, lt, is) =
    searching_seen g s top cur (letter_at was cur) (low_at was cur) from (suc next) was was q refl (changed_same cur was) (omega arith)
    (q.tree.back cur q.tree.inside).1
    (λ w seen.
    ⊎_elim inl (λ (e : w ≡ next). inr (inl (i, hi, lt, is ∙ sym e)))
    (upto_next g (node_at was cur) (letter_at was cur) from next w least seen))

pub searching_met : (g : Graph) (s top cur from next : ℕ) (was work : List Record) → Searching g s top cur from was
    → length work ≡ length was → letter_at was cur < g.letters
    → Least (g.edge (node_at was cur) (letter_at was cur)) from (Some next) → Met s top cur next was work true
    → Searching g s top cur (suc next) work
searching_met g s top cur from next was work q len left least =
    ⊎_elim (λ (i, lt, is, c). searching_placed g s top cur from next i was work q len left least lt is c)
    (λ (same, done). subst (λ y. Searching g s top cur (suc next) y) (sym same) (searching_past g s top cur from next was q least done))

pub met_quiet : (s top cur next : ℕ) (was work : List Record) → Met s top cur next was work true → Quiet cur was work
met_quiet s top cur next was work =
    ⊎_elim (λ (i, lt, is, c). changed_quiet cur (letter_at was cur) (min (low_at was cur) i) was work c)
    (λ (same, done). subst (λ y. Quiet cur was y) (sym same) (quiet_same cur was))

pub met_letter : (s top cur next : ℕ) (was work : List Record) → Met s top cur next was work true → letter_at work cur ≡ letter_at was cur
met_letter s top cur next was work =
    ⊎_elim (λ (i, lt, is, c). changed_letter cur (letter_at was cur) (min (low_at was cur) i) was work c)
    (λ (same, done). ap (λ y. letter_at y cur) same)

-- no edge leads to a number of 2^64 or more
beyond : (g : Graph) → Bounded g → (v l node w : ℕ) → 2 ^ 64 ≤ node + 1 → suc node ≤ w → g.edge v l w ≡ true → ⊥
beyond g b v l node w h le e = omega (arith, b.nodes w (b.edges v l w e).2)

pub searching_resumed : (g : Graph) (s top cur node r : ℕ) (was work : List Record) → Bounded g
    → Searching g s top cur (suc node) was → length work ≡ length was → Resumed cur node was work r
    → Searching g s top cur r work
searching_resumed g s top cur node r was work b q len =
    ⊎_elim
    (λ (is, fits, same).
    subst (λ y. Searching g s top cur r y) (sym same)
    (subst (λ y. Searching g s top cur y was) (let e : suc node ≡ r = omega arith in e) q))
    (λ (is, large, c).
    subst (λ y. Searching g s top cur y work) (sym is)
    (searching_turn g s top cur (suc node) was work q len c (λ w. beyond g b (node_at was cur) (letter_at was cur) node w large)))

pub resumed_quiet : (cur node r : ℕ) (was work : List Record) → Resumed cur node was work r → Quiet cur was work
resumed_quiet cur node r was work =
    ⊎_elim (λ (is, fits, same). subst (λ y. Quiet cur was y) (sym same) (quiet_same cur was))
    (λ (is, large, c). changed_quiet cur (letter_at was cur + 1) (low_at was cur) was work c)

-- what is left to look at falls
pub left_turn : (g : Graph) (l l' from : ℕ) → l < g.letters → l' ≡ l + 1 → from < 2 ^ 64 → left g l' 0 < left g l from
left_turn g l l' from h e f = omega arith

pub left_resumed : (g : Graph) (cur node r l from : ℕ) (was work : List Record) → Resumed cur node was work r
    → letter_at was cur ≡ l → l < g.letters → from ≤ node → from < 2 ^ 64 → left g (letter_at work cur) r < left g l from
left_resumed g cur node r l from was work o is h le f =
    ⊎_elim
    (λ (e, fits, same). let k : letter_at work cur ≡ l = subst (λ y. letter_at y cur ≡ l) (sym same) is in omega arith)
    (λ (e, large, c). let k = changed_letter cur (letter_at was cur + 1) (low_at was cur) was work c in omega arith) o
