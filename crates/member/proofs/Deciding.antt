-- What a search of a chart's maps tells of its words.
use Rattle.std.proofs.Common.{◌≡◌, ℕ, ◌≤◌, Bool, not, List, length, is_some, Some, None, Option, sym, subst, arith}
use Rattle.chart.specs.Automata.{Automaton, Limits}
use Rattle.records.specs.declared.faults.SearchFault.{SearchFault}
use Rattle.records.specs.declared.faults.SearchFault.TheVariants.{Table, Full}
use Rattle.graph.specs.Walks.{More}
use Rattle.lasso.specs.Words.{IsWord}
use Rattle.lasso.proofs.Agreeing.{takes_accepts, accepts_takes}
use Rattle.records.specs.declared.record.Record.{Record}
use Rattle.search.specs.declared.surveys.Findings.{Findings}
use Rattle.records.specs.Sizes.{Allowed}
use Rattle.search.specs.Surveys.{Told, Surveyed, Refused}
use Rattle.member.specs.Maps.{chart_graph, word_graph}
use Rattle.member.specs.Questions.{IsEmpty, Empties, IsMember, Members}
use Rattle.member.proofs.ChartCycles.{cycle_taken, takes_cycle, accepts_cycle, not_more_states}
use Rattle.member.proofs.WordCycles.{word_cycle_takes, takes_word_cycle}

pub told_empty : (m : Automaton) → Limits m → (count : ℕ) (work : List Record) (found : Option ℕ)
    → Told (chart_graph m) count work found → IsEmpty m (not (is_some found))
told_empty m h count work None (none, measures) =
    record {
      word = λ word stem lt t. none (takes_cycle m h word stem t);
      endless = λ word a. none (accepts_cycle m h word a);
    }
told_empty m h count work (Some v) cycle = cycle_taken m h (v, cycle)

pub told_member : (m : Automaton) → Limits m → (word : List ℕ) (stem : ℕ) → IsWord m.letters word stem → (count : ℕ) (work : List Record)
    (found : Option ℕ) → Told (word_graph m word stem) count work found → IsMember m word stem (is_some found)
told_member m h word stem good count work None (none, measures) = (
  λ t. none (takes_word_cycle m word stem good.lasso h t),
  λ a. none (takes_word_cycle m word stem good.lasso h (accepts_takes m word stem h good.lasso.loops a)),
)
told_member m h word stem good count work (Some v) cycle =
    let t = word_cycle_takes m word stem good.lasso (v, cycle) in
    (t, takes_accepts m word stem good.lasso.loops t)

-- a search of the map of a chart that means the same
pub answer_empty : (m m' : Automaton) → m' ≡ m → Limits m → (n : ℕ) (work : List Record) (found : Findings) (b : Bool)
    → length work ≡ n → b ≡ is_some found.witness → Surveyed (chart_graph m') work found → Empties m n (not b)
answer_empty m m' same h n work found b len is s' =
    let s = subst (λ x. Surveyed (chart_graph x) work found) same s' in
    record {
      allowed = subst Allowed len s.allowed;
      room = subst (λ x. More (chart_graph m) x → ⊥) len s.room;
      told = subst (λ x. IsEmpty m (not x)) (sym is) (told_empty m h found.count work found.witness s.told);
    }

-- with a record for each state it is never refused
pub never_refused : (m m' : Automaton) → m' ≡ m → Limits m → (was work : List Record) (e : SearchFault) → m.states ≤ length was
    → length was ≤ 65536 → Refused (chart_graph m') was work e → ⊥
never_refused m m' same h was work Table enough few (none, _) =
    none (record { some_records = omega (arith, h.size.some_states, enough); few_records = few })
never_refused m m' same h was work Full enough few (_, more) =
    not_more_states m h (length was) enough (subst (λ x. More (chart_graph x) (length was)) same more)

pub answer_member : (m m' : Automaton) → m' ≡ m → Limits m → (word : List ℕ) (stem n : ℕ) (work : List Record) (found : Findings) (b : Bool)
    → IsWord m.letters word stem → length work ≡ n → b ≡ is_some found.witness → Surveyed (word_graph m' word stem) work found
    → Members m word stem n b
answer_member m m' same h word stem n work found b good len is s' =
    let s = subst (λ x. Surveyed (word_graph x word stem) work found) same s' in
    record {
      allowed = subst Allowed len s.allowed;
      good = good;
      room = subst (λ x. More (word_graph m word stem) x → ⊥) len s.room;
      told = subst (λ x. IsMember m word stem x) (sym is) (told_member m h word stem good found.count work found.witness s.told);
    }
