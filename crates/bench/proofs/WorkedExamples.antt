-- Each example holds, since one test of it passes, which asks the ranked graph that was worked out node by node.
use Rattle.std.proofs.Common.{◌≡◌, ◌∙◌, ℕ, suc, ◌+◌, ◌-◌, ◌<◌, ◌≤◌, Bool, true, false, not, ◌&&◌, ◌||◌, eqb, leb, ltb, List, [], ◌∷◌, drop, length, map, zip, get_or, Decides, All, add-sub_of_le, ⊎_elim, ap, refl, subst, sym, arith}
use Rattle.std.specs.Prelude.{slice_index_or}
use Rattle.std.specs.Bool.{MatchBool}
use Rattle.std.specs.List.{list_all, list_any}
use Rattle.std.proofs.lemmas.Bool.{agree_below, agree_below_at, and_from, and_parts, cases_lt, eq-eqb, eqb-true, le-leb, leb-true, lt-ltb, ltb-true, not-true}
use Rattle.std.proofs.lemmas.Bool.Decides.{Decides-and, Decides-by_and, Decides-by_or, Decides-eqb, Decides-like, Decides-ltb, not_from_Decides}
use Rattle.std.proofs.lemmas.List.{get_or-drop, get_or_default, length-drop}
use Rattle.std.proofs.lemmas.List.Elements.{All-from_get_or, All-map}
use Rattle.std.proofs.lemmas.List.Sums.{AllPass-from_list_all}
use Rattle.chart.specs.Automata.{Automaton}
use Rattle.graph.specs.Graphs.{Graph}
use Rattle.graph.specs.Walks.{Count, MarkedCycle, begin}
use Rattle.graph.specs.Witnesses.{FallingMeasures}
use Rattle.lasso.specs.Positions.{after}
use Rattle.rank.specs.Containment.{Differs, Included}
use Rattle.rank.specs.Ranked.{ranked_graph}
use Rattle.rank.proofs.Implied.{implied, implied_from}
use Rattle.rank.proofs.Tests.{edge_holds}
use Rattle.slip.specs.Numbered.{rule_kind, rule_number}
use Rattle.slip.specs.declared.kinds.Breach.{Breach}
use Rattle.slip.specs.declared.kinds.BreakRule.{BreakRule}
use Rattle.slip.specs.declared.kinds.BreakRule.TheVariants as breaks
use Rattle.slip.specs.declared.kinds.KeepRule.{KeepRule}
use Rattle.slip.specs.declared.kinds.KeepRule.TheVariants as keeps
use Rattle.slip.specs.declared.kinds.Kind.{Kind}
use Rattle.slip.specs.declared.kinds.Kind.TheVariants.{Keep, Break}
use Rattle.slip.specs.declared.kinds.Rule.{Rule}
use Rattle.slip.specs.declared.kinds.Rule.TheVariants as of
use Rattle.records.specs.Tables.{blank, node_at, letter_at, measure_at}
use Rattle.records.specs.declared.record.Record.{Record}
use Rattle.slip.specs.Certificates.{Certificate}
use Rattle.slip.specs.Rules as rules
use Rattle.slip.specs.Rules.{BreakHolds, FirstBreach, HoldsFor, KeepHolds, Meets}
use Rattle.slip.specs.Shapes.{stems}
use Rattle.bench.specs.Examples.{Example, Holds, Told, verdict, full, passes, refused, example, examples, ExamplesHold, means, no_start}
use Rattle.bench.specs.Examples as here
use Rattle.bench.specs.Slips.{Fits}
use Rattle.bench.specs.Verdicts.{IsVerdict}
use Rattle.bench.proofs.Deciding.{cycle_forbidden, told_decides}
use Rattle.bench.proofs.WorkedGraphs.{Entry, Worked, entry, entry_at, graph_of, graphs_hold, worked}
use Rattle.bench.proofs.WorkedGraphs as graphs
use Rattle.numbers.proofs.Below.{itself}

-- what tests decide
least : (m n : ℕ) → Decides (leb m n) (m ≤ n)
least m n = (leb-true m n, le-leb m n)

-- a condition, and what is asked on it
asked : {P Q : Type 0} (x y : Bool) → Decides x P → (P → Decides y Q) → Decides (not x || y) (P → Q)
asked x y d k = (λ e p. (k p).0 (implied x y e (d.1 p)), λ f. implied_from x y (λ t. let p = d.0 t in (k p).1 (f p)))

three : {P Q R : Type 0} (x y z : Bool) → Decides x P → Decides y Q → Decides z R → Decides (x && (y && z)) (P × Q × R)
three x y z d k l =
    Decides-like (x && (y && z)) (λ h. (h.0, h.1.0, h.1.1)) (λ h. (h.0, (h.1, h.2))) (Decides-and x (y && z) d (Decides-and y z k l))

-- each element, or some
module _ {X : Type 0} (xs : List X) (d : X) (p : X → Bool) (P : X → Type 0) (one : (x : X) → Decides (p x) (P x)) where
  every : Decides (list_all p xs) ((k : ℕ) → k < length xs → P (slice_index_or xs k d))
  every =
      Decides-like (list_all p xs) (λ h k low. h k d low) (All-from_get_or P xs d)
      (Decides-by_and p P (list_all p) one refl (λ x ys. refl) xs)

  some : Decides (list_any p xs) ((k : ℕ) × (k < length xs) × P (slice_index_or xs k d))
  some =
      Decides-like (list_any p xs) (λ h. (h.0, h.1, h.2 d))
      (λ h. (h.0, h.1, λ c. subst P (get_or_default xs h.0 d c h.1) h.2))
      (Decides-by_or p P (list_any p) one refl (λ x ys. refl) xs)

-- tests of the rules, over the graph of an example
module _ (e : Worked) (rs : List Record) where
  abbrev g : Graph
  g = graph_of e

  abbrev n : ℕ
  n = length rs

  abbrev at : ℕ → Record
  at p = slice_index_or rs p blank

  abbrev none : Entry
  none = entry 0 0 []

  -- each record is of an entry's node
  abbrev known : Bool
  known = list_all (λ r. list_any (λ x. eqb x.node r.node) e.entries) rs

  -- from record r to record s of node w measures fall as they should
  abbrev falls : Record → ℕ → Record → Bool
  falls r w s = eqb s.node w && (leb s.measure r.measure && (not (g.marked r.node) || ltb s.measure r.measure))

  abbrev Falls : Record → ℕ → Record → Type 0
  Falls r w s = (s.node ≡ w) × (s.measure ≤ r.measure) × (g.marked r.node ≡ true → s.measure < r.measure)

  abbrev covers : Record → Entry → Bool
  covers r x = list_all (λ w. list_any (falls r w) rs) x.next

  abbrev next_met : Record → Bool
  next_met r = list_any (λ x. eqb x.node r.node && covers r x) e.entries

  abbrev has : ℕ → Bool
  has v = list_any (λ s. eqb s.node v) rs

  abbrev starts_met : Bool
  starts_met = list_all (λ x. not (g.start x.node) || has x.node) e.entries

  abbrev keep_test : ℕ → KeepRule → Bool
  keep_test p keeps.Node = not (ltb p n) || (g.node (node_at rs p) && eqb (letter_at rs p) 0)
  keep_test p keeps.Next = not (ltb p n) || next_met (at p)
  keep_test p keeps.Starts = not (eqb p n) || starts_met

  abbrev break_test : ℕ → ℕ → BreakRule → Bool
  break_test stem p breaks.Node =
      not (ltb p n) || (g.node (node_at rs p) && (ltb (letter_at rs p) g.letters && eqb (measure_at rs p) 0))
  break_test stem p breaks.Start = not (eqb p 0) || g.start (node_at rs p)
  break_test stem p breaks.Next = not (ltb p n) || g.edge (node_at rs p) (letter_at rs p) (node_at rs (after n stem p))
  break_test stem p breaks.Mark = not (eqb p n) || list_any (λ s. g.marked s.node) (drop stem rs)

  abbrev rule_test : Kind → ℕ → ℕ → Rule → Bool
  rule_test Keep stem p (of.Keep r) = keep_test p r
  rule_test Keep stem p (of.Break r) = true
  rule_test Break stem p (of.Keep r) = true
  rule_test Break stem p (of.Break r) = break_test stem p r

  falls_decides : (r : Record) (w : ℕ) (s : Record) → Decides (falls r w s) (Falls r w s)
  falls_decides r w s =
      three (eqb s.node w) (leb s.measure r.measure) (not (g.marked r.node) || ltb s.measure r.measure) (Decides-eqb s.node w)
      (least s.measure r.measure)
      (asked (g.marked r.node) (ltb s.measure r.measure) (itself (g.marked r.node)) (λ m. Decides-ltb s.measure r.measure))

  abbrev Met : ℕ → ℕ → Type 0
  Met p w =
      (k : ℕ) × (k < n) × (node_at rs k ≡ w) × (measure_at rs k ≤ measure_at rs p)
      × (g.marked (node_at rs p) ≡ true → measure_at rs k < measure_at rs p)

  met_decides : (p w : ℕ) → Decides (list_any (falls (at p) w) rs) (Met p w)
  met_decides p w =
      Decides-like (list_any (falls (at p) w) rs) (λ h. (h.0, h.1, h.2.0, h.2.1, h.2.2)) (λ h. (h.0, h.1, (h.2, h.3, h.4)))
      (some rs blank (falls (at p) w) (Falls (at p) w) (falls_decides (at p) w))

  abbrev Has : ℕ → Type 0
  Has v = (k : ℕ) × (k < n) × (node_at rs k ≡ v)

  has_decides : (v : ℕ) → Decides (has v) (Has v)
  has_decides v = some rs blank (λ s. eqb s.node v) (λ s. s.node ≡ v) (λ s. Decides-eqb s.node v)

  mark_decides : (stem : ℕ)
      → Decides (list_any (λ s. g.marked s.node) (drop stem rs))
      ((k : ℕ) × (stem ≤ k) × (k < n) × (g.marked (node_at rs k) ≡ true))
  mark_decides stem =
      let there = λ (k : ℕ). ap (λ s. g.marked s.node) (get_or-drop stem rs k blank) in
      Decides-like (list_any (λ s. g.marked s.node) (drop stem rs))
      (λ h. (stem + h.0, omega arith, omega (arith, h.1, length-drop stem rs), sym (there h.0) ∙ h.2))
      (λ h. (
        h.0 - stem,
        omega (arith, h.1, h.2, length-drop stem rs),
        there (h.0 - stem) ∙ (ap (λ k. g.marked (node_at rs k)) (add-sub_of_le h.1) ∙ h.3),
      ))
      (some (drop stem rs) blank (λ s. g.marked s.node) (λ s. g.marked s.node ≡ true) (λ s. itself (g.marked s.node)))

  break_decides : (stem p : ℕ) (r : BreakRule) → Decides (break_test stem p r) (BreakHolds g rs stem p r)
  break_decides stem p breaks.Node =
      let v = node_at rs p in
      let l = letter_at rs p in
      let m = measure_at rs p in
      asked (ltb p n) (g.node v && (ltb l g.letters && eqb m 0)) (Decides-ltb p n)
      (λ h. three (g.node v) (ltb l g.letters) (eqb m 0) (itself (g.node v)) (Decides-ltb l g.letters) (Decides-eqb m 0))
  break_decides stem p breaks.Start = asked (eqb p 0) (g.start (node_at rs p)) (Decides-eqb p 0) (λ h. itself (g.start (node_at rs p)))
  break_decides stem p breaks.Next =
      let t = g.edge (node_at rs p) (letter_at rs p) (node_at rs (after n stem p)) in
      asked (ltb p n) t (Decides-ltb p n) (λ h. itself t)
  break_decides stem p breaks.Mark =
      asked (eqb p n) (list_any (λ s. g.marked s.node) (drop stem rs)) (Decides-eqb p n) (λ h. mark_decides stem)

  module _ (h : graphs.Holds e) (found : known ≡ true) where
    covers_decides : (p j : ℕ) → j < length e.entries → (entry_at e j).node ≡ node_at rs p
        → Decides (covers (at p) (entry_at e j)) ((l w : ℕ) → g.edge (node_at rs p) l w ≡ true → Met p w)
    covers_decides p j low same =
        let next = (entry_at e j).next in
        Decides-like (covers (at p) (entry_at e j))
        (λ all l w x.
        let y : g.edge (entry_at e j).node l w ≡ true = subst (λ v. g.edge v l w ≡ true) (sym same) x in
        let i = (h.edges j low w).0 (l, (edge_holds (means e.duty) (means e.rule) (entry_at e j).node l w y).letter, y) in
        subst (Met p) i.2 (all i.0 i.1))
        (λ f i lt.
        let w = get_or next i 0 in
        let x = (h.edges j low w).1 (i, lt, refl) in
        f x.0 w (subst (λ v. g.edge v x.0 w ≡ true) same x.2))
        (every next 0 (λ w. list_any (falls (at p) w) rs) (Met p) (met_decides p))

    entry_known : (p : ℕ) → p < n → (j : ℕ) × (j < length e.entries) × ((entry_at e j).node ≡ node_at rs p)
    entry_known =
        (every rs blank (λ r. list_any (λ x. eqb x.node r.node) e.entries)
        (λ r. (j : ℕ) × (j < length e.entries) × ((entry_at e j).node ≡ r.node))
        (λ r. some e.entries none (λ x. eqb x.node r.node) (λ x. x.node ≡ r.node) (λ x. Decides-eqb x.node r.node))).0
        found

    next_decides : (p : ℕ) → p < n → Decides (next_met (at p)) ((l w : ℕ) → g.edge (node_at rs p) l w ≡ true → Met p w)
    next_decides p low =
        let v = node_at rs p in
        let t = λ (x : Entry). eqb x.node v && covers (at p) x in
        Decides-like (next_met (at p))
        (λ j.
        let q = and_parts (eqb (entry_at e j.0).node v) (covers (at p) (entry_at e j.0)) j.2 in
        (covers_decides p j.0 j.1 (eqb-true (entry_at e j.0).node v q.0)).0 q.1)
        (λ f.
        let j = entry_known p low in (
          j.0,
          j.1,
          and_from (eqb (entry_at e j.0).node v) (covers (at p) (entry_at e j.0)) (eq-eqb (entry_at e j.0).node v j.2)
              ((covers_decides p j.0 j.1 j.2).1 f),
        ))
        (some e.entries none t (λ x. t x ≡ true) (λ x. itself (t x)))

    starts_decides : Decides starts_met ((v : ℕ) → g.start v ≡ true → Has v)
    starts_decides =
        Decides-like starts_met
        (λ all v s.
        let j = h.reached v (begin s) in
        subst Has j.2 (all j.0 j.1 (subst (λ u. g.start u ≡ true) (sym j.2) s)))
        (λ f j low s. f (entry_at e j).node s)
        (every e.entries none (λ x. not (g.start x.node) || has x.node) (λ x. g.start x.node ≡ true → Has x.node)
        (λ x. asked (g.start x.node) (has x.node) (itself (g.start x.node)) (λ s. has_decides x.node)))

    keep_decides : (p : ℕ) (r : KeepRule) → Decides (keep_test p r) (KeepHolds g rs p r)
    keep_decides p keeps.Node =
        let v = node_at rs p in
        let l = letter_at rs p in
        asked (ltb p n) (g.node v && eqb l 0) (Decides-ltb p n)
        (λ h. Decides-and (g.node v) (eqb l 0) (itself (g.node v)) (Decides-eqb l 0))
    keep_decides p keeps.Next = asked (ltb p n) (next_met (at p)) (Decides-ltb p n) (next_decides p)
    keep_decides p keeps.Starts = asked (eqb p n) starts_met (Decides-eqb p n) (λ h. starts_decides)

    rule_decides : (k : Kind) (stem p : ℕ) (r : Rule) → Decides (rule_test k stem p r) (HoldsFor g k stem rs p r)
    rule_decides Keep stem p (of.Keep r) = keep_decides p r
    rule_decides Keep stem p (of.Break r) = (λ t. tt, λ t. refl)
    rule_decides Break stem p (of.Keep r) = (λ t. tt, λ t. refl)
    rule_decides Break stem p (of.Break r) = break_decides stem p r

abbrev all_rules : List Rule
all_rules =
    of.Keep keeps.Node ∷ of.Keep keeps.Next ∷ of.Keep keeps.Starts ∷ of.Break breaks.Node ∷ of.Break breaks.Start ∷ of.Break breaks.Next
    ∷ of.Break breaks.Mark ∷ []

each_rule : (t : Rule → Bool) → list_all t all_rules ≡ true → (r : Rule) → t r ≡ true
each_rule t e r =
    let here = λ (k : ℕ) (low : k < 7). AllPass-from_list_all t all_rules e k r low in
    elim r as (λ x. t x ≡ true) [
      | of.Keep s ↦ elim s as (λ x. t (of.Keep x) ≡ true) [
        | keeps.Node ↦ here 0 (omega arith)
        | keeps.Next ↦ here 1 (omega arith)
        | keeps.Starts ↦ here 2 (omega arith)
      ]
      | of.Break s ↦ elim s as (λ x. t (of.Break x) ≡ true) [
        | breaks.Node ↦ here 3 (omega arith)
        | breaks.Start ↦ here 4 (omega arith)
        | breaks.Next ↦ here 5 (omega arith)
        | breaks.Mark ↦ here 6 (omega arith)
      ]
    ]

-- no rule asks anything beyond the place after the last record
beyond : (g : Graph) (k : Kind) (stem : ℕ) (rs : List Record) (p : ℕ) → length rs < p → (r : Rule) → HoldsFor g k stem rs p r
beyond g Keep stem rs p h (of.Keep keeps.Node) = λ low. absurd (omega arith)
beyond g Keep stem rs p h (of.Keep keeps.Next) = λ low. absurd (omega arith)
beyond g Keep stem rs p h (of.Keep keeps.Starts) = λ same. absurd (omega arith)
beyond g Keep stem rs p h (of.Break r) = tt
beyond g Break stem rs p h (of.Keep r) = tt
beyond g Break stem rs p h (of.Break breaks.Node) = λ low. absurd (omega arith)
beyond g Break stem rs p h (of.Break breaks.Start) = λ same. absurd (omega arith)
beyond g Break stem rs p h (of.Break breaks.Next) = λ low. absurd (omega arith)
beyond g Break stem rs p h (of.Break breaks.Mark) = λ same. absurd (omega arith)

abbrev is_of : Kind → Rule → Bool
is_of Keep (of.Keep r) = true
is_of Keep (of.Break r) = false
is_of Break (of.Keep r) = false
is_of Break (of.Break r) = true

kind_of_rule : (k : Kind) (r : Rule) → is_of k r ≡ true → rule_kind r ≡ k
kind_of_rule Keep (of.Keep r) e = refl
kind_of_rule Keep (of.Break r) e = absurd (cc)
kind_of_rule Break (of.Keep r) e = absurd (cc)
kind_of_rule Break (of.Break r) e = refl

-- tests of a slip
module _ (e : Worked) (c : Certificate) where
  abbrev test : ℕ → Rule → Bool
  test p r = rule_test e c.records c.kind c.stem p r

  -- all rules pass at the places below n
  abbrev all_pass : ℕ → Bool
  all_pass n = agree_below (λ p. list_all (test p) all_rules) (λ p. true) n

  abbrev is_lower : Breach → Rule → Bool
  is_lower b r = not (ltb (rule_number r) (rule_number b.rule)) || test b.place r

  abbrev is_first : Breach → Bool
  is_first b = list_all (is_lower b) all_rules && all_pass b.place

  abbrev fits_known : Bool
  fits_known = leb (length c.records) 12 && (ltb c.stem (stems c.kind (length c.records)) && known e c.records)

  abbrev meets : Bool
  meets = fits_known && all_pass (suc (length c.records))

  abbrev breaks_first : Breach → Bool
  breaks_first b = fits_known && (is_of c.kind b.rule && (not (test b.place b.rule) && is_first b))

  fits : fits_known ≡ true → Fits 6 c × (known e c.records ≡ true)
  fits t =
      let m = ltb c.stem (stems c.kind (length c.records)) in
      let p = and_parts (leb (length c.records) 12) (m && known e c.records) t in
      let q = and_parts m (known e c.records) p.1 in (
        record {
          few = leb-true (length c.records) 12 p.0;
          placed = ltb-true c.stem (stems c.kind (length c.records)) q.0;
        },
        q.1,
      )

  module _ (h : graphs.Holds e) (found : known e c.records ≡ true) where
    decides : (p : ℕ) (r : Rule) → Decides (test p r) (rules.Holds (graph_of e) c p r)
    decides = rule_decides e c.records h found c.kind c.stem

    passed : (n : ℕ) → all_pass n ≡ true → (p : ℕ) (r : Rule) → p < n → rules.Holds (graph_of e) c p r
    passed n t p r low =
        (decides p r).0 (each_rule (test p) (agree_below_at (λ p. list_all (test p) all_rules) (λ p. true) n p t low) r)

    passed_meets : all_pass (suc (length c.records)) ≡ true → Meets (graph_of e) c
    passed_meets t p r =
        ⊎_elim (λ low. passed (suc (length c.records)) t p r low)
        (λ high. beyond (graph_of e) c.kind c.stem c.records p (omega arith) r)
        (cases_lt p (suc (length c.records)))

    first_breach : (b : Breach) → (is_of c.kind b.rule && (not (test b.place b.rule) && is_first b)) ≡ true → FirstBreach (graph_of e) c b
    first_breach b t =
        let p = and_parts (is_of c.kind b.rule) (not (test b.place b.rule) && is_first b) t in
        let q = and_parts (not (test b.place b.rule)) (is_first b) p.1 in
        let l = and_parts (list_all (is_lower b) all_rules) (all_pass b.place) q.1 in
        record {
          of_kind = kind_of_rule c.kind b.rule p.0;
          broken = not_from_Decides (test b.place b.rule) (decides b.place b.rule) (not-true (test b.place b.rule) q.0);
          lower =
              λ r low.
              (decides b.place r).0
              (implied (ltb (rule_number r) (rule_number b.rule)) (test b.place r) (each_rule (is_lower b) l.0 r)
              (lt-ltb (rule_number r) (rule_number b.rule) low));
          before = passed b.place l.1;
        }

-- the verdict of a graph with a marked cycle, or with none
abbrev is_told : Kind → Bool → Bool
is_told Keep cycle = not cycle
is_told Break cycle = cycle

kind_told : (k : Kind) (c : Bool) (a b : Automaton) (F : Type 0) → is_told k c ≡ true
    → (MarkedCycle (ranked_graph a b) → IsVerdict a b Break) → MatchBool c (MarkedCycle (ranked_graph a b)) F
    → MatchBool c (Differs a b) (Included a b) → IsVerdict a b k
kind_told Keep true a b F t forbidden cycle words = absurd (cc)
kind_told Keep false a b F t forbidden cycle words = words
kind_told Break true a b F t forbidden cycle words = forbidden cycle
kind_told Break false a b F t forbidden cycle words = absurd (cc)

module _ (e : Worked) where
  abbrev size : ℕ
  size = length e.entries

  abbrev tells : Told → Bool
  tells (verdict kind nodes) = is_told kind e.cycle && (eqb size nodes && leb nodes 6)
  tells (full room) = ltb room size
  tells (passes c) = meets e c
  tells (refused c b) = breaks_first e c b

  tells_holds : graphs.Holds e → (t : Told) → tells t ≡ true → here.HoldsFor (means e.duty) (means e.rule) t
  tells_holds h (verdict kind nodes) t =
      let a = means e.duty in
      let b = means e.rule in
      let p = and_parts (is_told kind e.cycle) (eqb size nodes && leb nodes 6) t in
      let q = and_parts (eqb size nodes) (leb nodes 6) p.1 in
      let count : Count (graph_of e) nodes =
      subst (Count (graph_of e)) (eqb-true size nodes q.0)
      (record { at = λ k. (entry_at e k).node; apart = h.once; reached = h.only; whole = h.reached }) in
      let few : nodes ≤ 6 = leb-true nodes 6 q.1 in
      told_decides a b 6 kind nodes few count
      (kind_told kind e.cycle a b (FallingMeasures (graph_of e) (λ k. (entry_at e k).node) (λ k. (entry_at e k).measure) size)
      p.0 (cycle_forbidden a b h.charts nodes (omega (arith, few)) count) h.cycle h.words)
  tells_holds h (full room) t =
      let low = ltb-true room size t in
      record {
        at = λ k. (entry_at e k).node;
        apart = λ i k hi hk. h.once i k (omega arith) (omega arith);
        reached = λ k hk. h.only k (omega arith);
      }
  tells_holds h (passes c) t =
      let p = and_parts (fits_known e c) (all_pass e c (suc (length c.records))) t in
      let f = fits e c p.0 in (f.0, passed_meets e c h f.1 p.1)
  tells_holds h (refused c b) t =
      let p = and_parts (fits_known e c) (is_of c.kind b.rule && (not (test e c b.place b.rule) && is_first e c b)) t in
      let f = fits e c p.0 in (f.0, first_breach e c h f.1 b p.1)

-- the graph of each example, by its number
abbrev numbers : List ℕ
numbers = 0 ∷ 1 ∷ 2 ∷ 3 ∷ 4 ∷ 5 ∷ 6 ∷ 0 ∷ 0 ∷ 0 ∷ 1 ∷ 1 ∷ 0 ∷ []

abbrev absent : Worked
absent = record { duty = no_start; rule = no_start; entries = []; cycle = false }

abbrev graph_at : ℕ → Worked
graph_at k = slice_index_or worked k absent

abbrev chosen : List (ℕ × Told)
chosen = zip numbers (map (λ x. x.told) examples)

abbrev retold : ℕ × Told → Example
retold x = example (graph_at x.0).duty (graph_at x.0).rule x.1

abbrev holds_test : ℕ × Told → Bool
holds_test x = ltb x.0 (length worked) && tells (graph_at x.0) x.1

test_holds : (x : ℕ × Told) → holds_test x ≡ true → Holds (retold x)
test_holds x t =
    let p = and_parts (ltb x.0 (length worked)) (tells (graph_at x.0) x.1) t in
    let h = graphs_hold x.0 absent (ltb-true x.0 (length worked) p.0) in
    record { charts = h.charts; told = tells_holds (graph_at x.0) h x.1 p.1 }

same_examples : map retold chosen ≡ examples
same_examples = refl

all_told : list_all holds_test chosen ≡ true
all_told = refl

pub examples_told : ExamplesHold
examples_told =
    subst (All Holds) same_examples
    (All-map Holds retold chosen
    (λ k d low. test_holds (slice_index_or chosen k d) (AllPass-from_list_all holds_test chosen all_told k d low)))
