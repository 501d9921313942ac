-- What a search of the ranked graph tells of the duty and the rule.
use Rattle.std.proofs.Common.{◌≡◌, ◌∙◌, ℕ, ◌≤◌, List, length, Some, None, Option, refl, subst, arith}
use Rattle.std.specs.Prelude.{◌↔◌}
use Rattle.chart.specs.Automata.{Automaton}
use Rattle.graph.specs.Graphs.{Graph}
use Rattle.graph.specs.Walks.{Count, MarkedCycle}
use Rattle.graph.proofs.Loops.{cycle_short_loop}
use Rattle.graph.proofs.Unrolled.{loop_word, word_good, word_lasso}
use Rattle.rank.specs.Containment.{Charts, Included, Differs}
use Rattle.rank.specs.Ranked.{ranked_graph}
use Rattle.rank.proofs.Deciding.{cycles_decide, lassos_tell}
use Rattle.search.specs.Surveys.{Collected, Surveyed, Told}
use Rattle.records.specs.Tables.{node_at}
use Rattle.records.specs.declared.record.Record.{Record}
use Rattle.search.specs.declared.surveys.Findings.{Findings}
use Rattle.bench.specs.Drafting.{Searched, Wrote, kind_of, verdict_of}
use Rattle.bench.specs.Verdicts.{Decides, Forbidden, IsVerdict}
use Rattle.bench.specs.declared.states.Form.{Form}
use Rattle.bench.specs.declared.verdicts.Verdict.{Verdict}
use Rattle.slip.specs.declared.kinds.Kind.{Kind}
use Rattle.slip.specs.declared.kinds.Kind.TheVariants.{Keep, Break}

-- a marked cycle among few nodes has a short loop, whose letters are the word
pub cycle_forbidden : (a b : Automaton) → Charts a b → (n : ℕ) → n ≤ 65536 → Count (ranked_graph a b) n → MarkedCycle (ranked_graph a b) → Forbidden a b
cycle_forbidden a b charts n few count cycle =
    let g = ranked_graph a b in
    let (l, short) = cycle_short_loop g n count.at count.whole cycle in
    record {
      word = loop_word g l;
      stem = l.back.from;
      good = word_good g l (omega (arith, short));
      alone = lassos_tell a b charts l.at (loop_word g l) l.back.from (word_lasso g l);
    }

collected_count : (g : Graph) (n : ℕ) (work : List Record) → Collected g n work → Count g n
collected_count g n work c = record { at = node_at work; apart = c.apart; reached = c.reached; whole = c.whole }

told_verdict : (a b : Automaton) → Charts a b → (n : ℕ) → n ≤ 65536 → Count (ranked_graph a b) n → (work : List Record) (found : Option ℕ)
    → Told (ranked_graph a b) n work found → IsVerdict a b (kind_of found)
told_verdict a b charts n few count work None (none, measures) = (cycles_decide a b charts).included none
told_verdict a b charts n few count work (Some v) cycle = cycle_forbidden a b charts n few count (v, cycle)

forbidden_differs : (a b : Automaton) → Forbidden a b → Differs a b
forbidden_differs a b f =
    record { word = f.word; stem = f.stem; loops = f.good.lasso.loops; known = f.good.known; alone = f.alone }

not_included : (a b : Automaton) → Differs a b → Included a b → ⊥
not_included a b d all = d.alone.rejected (all d.word d.stem d.loops d.alone.taken)

-- so a verdict of either kind tells exactly whether the two differ
breaks_exactly : (a b : Automaton) (k : Kind) → IsVerdict a b k → (k ≡ Break) ↔ Differs a b
breaks_exactly a b Break f = (λ e. forbidden_differs a b f, λ d. refl)
breaks_exactly a b Keep all = (λ e. absurd (cc), λ d. absurd (not_included a b d all))

keeps_exactly : (a b : Automaton) (k : Kind) → IsVerdict a b k → (k ≡ Keep) ↔ Included a b
keeps_exactly a b Break f = (λ e. absurd (cc), λ all. absurd (not_included a b (forbidden_differs a b f) all))
keeps_exactly a b Keep all = (λ e. all, λ x. refl)

broken : (a b : Automaton) (k : Kind) → IsVerdict a b k → k ≡ Break → Forbidden a b
broken a b Break f e = f
broken a b Keep all e = absurd (cc)

-- a kind that is told of a duty and a rule, and a count, are the verdict
pub told_decides : (a b : Automaton) (room : ℕ) (k : Kind) (n : ℕ) → n ≤ room → Count (ranked_graph a b) n → IsVerdict a b k
    → Decides a b room (record { kind = k; nodes = n })
told_decides a b room k n fits count told =
    record {
      count = count;
      fits = fits;
      breaks = breaks_exactly a b k told;
      keeps = keeps_exactly a b k told;
      word = broken a b k told;
    }

pub survey_decides : (a b : Automaton) → Charts a b → (work : List Record) (found : Findings) → Surveyed (ranked_graph a b) work found
    → Decides a b (length work) (verdict_of found)
survey_decides a b charts work found s =
    let count = collected_count (ranked_graph a b) found.count work s.collected in
    told_decides a b (length work) (kind_of found.witness) found.count s.collected.fits count
    (told_verdict a b charts found.count (omega (arith, s.collected.fits, s.allowed.few_records)) count work found.witness s.told)

-- what was searched is the ranked graph of two charts that mean the same
pub search_tells : (a b a' b' : Automaton) → a' ≡ a → b' ≡ b → Charts a b → (room n : ℕ) → n ≡ room → (work : List Record) → length work ≡ n
    → (found : Findings) → Surveyed (ranked_graph a' b') work found → (was table : List Record) (v : Verdict) → v ≡ verdict_of found → (f : Form)
    → Wrote (ranked_graph a' b') (length work) (verdict_of found) was table f → Searched a b room was table v f
search_tells a b a' b' duty rule charts room n enough work len found surveyed was table v is f wrote =
    let moved : (P : Graph → Type 0) → P (ranked_graph a' b') → P (ranked_graph a b) =
    λ P x. subst (λ r. P (ranked_graph a r)) rule (subst (λ d. P (ranked_graph d b')) duty x) in
    let same : length work ≡ room = len ∙ enough in
    let decides = survey_decides a b charts work found (moved (λ g. Surveyed g work found) surveyed) in
    rw is (record {
      decides = subst (λ k. Decides a b k (verdict_of found)) same decides;
      wrote =
          subst (λ k. Wrote (ranked_graph a b) k (verdict_of found) was table f) same
          (moved (λ g. Wrote g (length work) (verdict_of found) was table f) wrote);
    })
