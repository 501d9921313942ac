-- What a value of each kind means keeps the limits: a fitted automaton does whatever it is fitted from, and the union of
-- two automata that keep them and can be united does.
use Rattle.std.specs.Prelude.{ℕ, ◌-◌, ◌&&◌, nat_lt}
use Rattle.std.proofs.Common.{arith}
use Rattle.std.proofs.lemmas.Bool.{and_parts, ltb-true}
use Rattle.std.proofs.lemmas.Bool.Decides.{nat_tests}
use Rattle.chart.specs.Automata.{Automaton, Allowed, Limits}
use Rattle.chart.specs.Kinds.{Unites, fitted, union}
use Rattle.chart.specs.Meanings.{fitted_of, union_of}
use Rattle.chart.specs.declared.fitting.Fitted.{Fitted}
use Rattle.chart.specs.declared.unions.Union.{Union}

pub fitted_limits : (n k : ℕ) (m : Automaton) → Allowed n k → Limits (fitted n k m)
fitted_limits n k m a =
    record {
      size = a;
      starts = λ q h. ltb-true q n (and_parts (nat_lt q n) (m.start q) h).0;
      marks = λ q h. ltb-true q n (and_parts (nat_lt q n) (m.mark q) h).0;
      steps =
          λ p i q h. let a = and_parts (nat_lt p n) (nat_lt i k && (nat_lt q n && m.step p i q)) h in
          let b = and_parts (nat_lt i k) (nat_lt q n && m.step p i q) a.1 in
          let c = and_parts (nat_lt q n) (m.step p i q) b.1 in
          (ltb-true p n a.0, ltb-true i k b.0, ltb-true q n c.0);
    }

pub union_limits : (a b : Automaton) → Limits a → Limits b → Unites a b → Limits (union a b)
union_limits a b la lb u =
    record {
      size = omega arith;
      starts = λ q h. grind (arith, nat_tests, la.starts q, lb.starts (q - a.states));
      marks = λ q h. grind (arith, nat_tests, la.marks q, lb.marks (q - a.states));
      steps = λ p i q h. grind (arith, nat_tests, la.steps p i q, lb.steps (p - a.states) i (q - a.states));
    }

pub fitted_of_limits : {C : Type 0} (m : C → Automaton) (f : Fitted C) → Limits (fitted_of m f)
fitted_of_limits m f = fitted_limits f.size.states f.size.letters (m f.chart) f.size.allowed

pub union_of_limits : {A B : Type 0} (a : A → Automaton) (b : B → Automaton) (u : Union A B) → Limits (union_of a b u)
union_of_limits a b u =
    union_limits (fitted_of a u.first) (fitted_of b u.second) (fitted_of_limits a u.first) (fitted_of_limits b u.second)
    (record { same_letters = u.same_letters; few_states = u.few_states })
