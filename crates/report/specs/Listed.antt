-- What a listing of two texts says, and its bytes.
use Rattle.std.specs.Prelude.{◌≡◌, ℕ, Bool, true, false, List, [], ◌∷◌, ◌++◌, Ok, Err, Result, MatchResult, codes, decimal}
use Rattle.chart.specs.Automata.{Automaton}
use Rattle.member.specs.Questions.{IsEmpty}
use Rattle.report.specs.Readings.{Reads, FirstRefused}
use Rattle.report.specs.Shown.{side_text, refusal_text}
use Rattle.report.specs.declared.listings.Listing.{Listing}
use Rattle.report.specs.declared.listings.Summaries.{Summaries}
use Rattle.report.specs.declared.listings.Summary.{Summary}
use Rattle.report.specs.declared.refusals.Refusal.{Refusal}
use Rattle.report.specs.declared.refusals.Side.{Side}
use Rattle.report.specs.declared.refusals.Side.TheVariants.{Duty, Rule}

-- the automaton's numbers of states and letters, and whether it takes no word
pub record Summarizes (m : Automaton) (s : Summary) : Type 0 where
  pub states : s.states ≡ m.states
  pub letters : s.letters ≡ m.letters
  pub empty : IsEmpty m s.empty

-- what is told of the chart that a file tells
abbrev pub Lists : List ℕ → Summary → Type 0
Lists text s = (m : Automaton) × Reads text m × Summarizes m s

abbrev pub ListsBoth : List ℕ → List ℕ → Summaries → Type 0
ListsBoth duty rule s = Lists duty s.duty × Lists rule s.rule

-- nothing is refused once both are read
abbrev pub ListsTexts : List ℕ → List ℕ → Listing → Type 0
ListsTexts duty rule r = MatchResult r.0 (ListsBoth duty rule) (FirstRefused duty rule (λ a b e. ⊥))

abbrev pub empty_text : Bool → List ℕ
empty_text true = codes "yes"
empty_text false = codes "no"

abbrev pub summary_text : Summary → List ℕ
summary_text s = decimal s.states ++ 32 ∷ (decimal s.letters ++ 32 ∷ empty_text s.empty)

abbrev pub summary_line : Side → Summary → List ℕ → List ℕ
summary_line side s rest = side_text side ++ 32 ∷ (summary_text s ++ 10 ∷ rest)

abbrev pub summaries_text : Summaries → List ℕ
summaries_text s = codes "chart states letters empty" ++ 10 ∷ summary_line Duty s.duty (summary_line Rule s.rule [])

abbrev pub result_text : Result Summaries Refusal → List ℕ
result_text (Ok s) = summaries_text s
result_text (Err r) = refusal_text r

abbrev pub listing_text : Listing → List ℕ
listing_text r = result_text r.0
