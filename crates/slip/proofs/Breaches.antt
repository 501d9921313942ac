-- A slip has at most one first breach, and none if it meets its rules.
use Rattle.std.proofs.Common.{◌≡◌, ℕ, ◌<◌, ◌≤◌, cond, ◌==◌, refl, sym, ap, ◌∙◌, subst, ⊎_elim, arith}
use Rattle.std.proofs.lemmas.Bool.{cases_lt}
use Rattle.graph.specs.Graphs.{Graph}
use Rattle.slip.specs.Numbered.{rule_kind, rule_number}
use Rattle.slip.specs.declared.kinds.Breach.{Breach}
use Rattle.slip.specs.declared.kinds.BreakRule.TheVariants as breaks
use Rattle.slip.specs.declared.kinds.KeepRule.TheVariants as keeps
use Rattle.slip.specs.declared.kinds.Kind.{Kind}
use Rattle.slip.specs.declared.kinds.Kind.TheVariants.{Keep, Break}
use Rattle.slip.specs.declared.kinds.Rule.{Rule}
use Rattle.slip.specs.declared.kinds.Rule.TheVariants as of
use Rattle.slip.specs.Certificates.{Certificate}
use Rattle.slip.specs.Rules.{Holds, Meets, FirstBreach}

-- the rule of a kind and a number
rule_of : Kind → ℕ → Rule
rule_of Keep n = of.Keep (cond (n == 1) keeps.Node (cond (n == 2) keeps.Next keeps.Starts))
rule_of Break n = of.Break (cond (n == 1) breaks.Node (cond (n == 2) breaks.Start (cond (n == 3) breaks.Next breaks.Mark)))

rule_told : (r : Rule) → rule_of (rule_kind r) (rule_number r) ≡ r
unfolding rule_of
rule_told (of.Keep keeps.Node) = refl
rule_told (of.Keep keeps.Next) = refl
rule_told (of.Keep keeps.Starts) = refl
rule_told (of.Break breaks.Node) = refl
rule_told (of.Break breaks.Start) = refl
rule_told (of.Break breaks.Next) = refl
rule_told (of.Break breaks.Mark) = refl

pub same_rule : (r s : Rule) → rule_kind r ≡ rule_kind s → rule_number r ≡ rule_number s → r ≡ s
same_rule r s kind number =
    sym (rule_told r) ∙ (ap (λ k. rule_of k (rule_number r)) kind ∙ (ap (rule_of (rule_kind s)) number ∙ rule_told s))

module _ (g : Graph) (c : Certificate) where
  not_before : (b d : Breach) → FirstBreach g c b → FirstBreach g c d → d.place ≤ b.place
  not_before b d fb fd =
      ⊎_elim (λ (lt : b.place < d.place). absurd (fb.broken (fd.before b.place b.rule lt)))
      (λ (le : d.place ≤ b.place). le) (cases_lt b.place d.place)

  not_lower : (b d : Breach) → FirstBreach g c b → FirstBreach g c d → b.place ≡ d.place → rule_number d.rule ≤ rule_number b.rule
  not_lower b d fb fd e =
      ⊎_elim
      (λ (lt : rule_number b.rule < rule_number d.rule).
      absurd (fb.broken (subst (λ p. Holds g c p b.rule) (sym e) (fd.lower b.rule lt))))
      (λ (le : rule_number d.rule ≤ rule_number b.rule). le) (cases_lt (rule_number b.rule) (rule_number d.rule))

  pub first_breach_once : (b d : Breach) → FirstBreach g c b → FirstBreach g c d → b ≡ d
  first_breach_once b d fb fd =
      let place : b.place ≡ d.place = omega (arith, not_before b d fb fd, not_before d b fd fb) in
      let number : rule_number b.rule ≡ rule_number d.rule =
      omega (arith, not_lower b d fb fd place, not_lower d b fd fb (sym place)) in
      let rule = same_rule b.rule d.rule (fb.of_kind ∙ sym fd.of_kind) number in
      λ j. record { rule = rule j; place = place j }

  pub met_or_broken : (b : Breach) → Meets g c → FirstBreach g c b → ⊥
  met_or_broken b meets f = f.broken (meets b.place b.rule)
