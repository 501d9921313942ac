-- Filling rows with the steps of a document.
use Rattle.std.specs.Prelude.{◌≡◌, ℕ, ◌+◌, ◌*◌, ◌<◌, ◌≤◌, Bool, true, false, ◌||◌, List, slice_index}
use Rattle.numbers.specs.Bits.{bit, Below}
use Rattle.text.specs.Documents.{tells_step}
use Rattle.text.specs.Reading.{step_fits}
use Rattle.text.specs.declared.entries.Entry.{Entry}
use Rattle.text.specs.declared.entries.Entry.TheVariants.{Title, Count, Columns, State, Heading, Step}
use Rattle.text.specs.declared.filling.Rows.{Rows}
use Rattle.text.specs.declared.loading.Loaded.{Loaded}

-- is q in the row of state p and letter i, of k letters?
abbrev pub cell : List ℕ → ℕ → ℕ → ℕ → ℕ → Bool
cell rows k p i q = bit (slice_index rows (p * k + i)) q

-- the rows of n states and k letters have no bit at or beyond n
abbrev pub Clean : ℕ → ℕ → List ℕ → Type 0
Clean n k rows = (j : ℕ) → j < n * k → Below n (slice_index rows j)

-- the rows behind those are as they were
abbrev pub Past : ℕ → ℕ → List ℕ → List ℕ → Type 0
Past n k was rows = (j : ℕ) → n * k ≤ j → slice_index rows j ≡ slice_index was j

-- the steps f were added to the rows `was` of the chart of these numbers
pub record Added (l : Loaded) (was rows : List ℕ) (f : ℕ → ℕ → ℕ → Bool) : Type 0 where
  pub cells : (p i q : ℕ) → p < l.states → i < l.letters → cell rows l.letters p i q ≡ (f p i q || cell was l.letters p i q)
  pub clean : Clean l.states l.letters was → Clean l.states l.letters rows
  pub past : Past l.states l.letters was rows

-- the steps f were added to rows, which are still the same words and of the same chart
pub record Adds (was rows : Rows) (f : ℕ → ℕ → ℕ → Bool) : Type 0 where
  pub same_reference : rows.cells.ghost_name ≡ was.cells.ghost_name
  pub chart : rows.chart ≡ was.chart
  pub added : Added was.chart was.cells.now rows.cells.now f

-- a line that tells a step tells it among the chart's states and letters
abbrev pub Fits : Loaded → Entry → Type 0
Fits l Title = Unit {0}
Fits l (Count n) = Unit {0}
Fits l Columns = Unit {0}
Fits l (State s) = Unit {0}
Fits l Heading = Unit {0}
Fits l (Step t) = step_fits l.letters l.states t ≡ true

-- the line tells the step from p by i to q, of k letters
abbrev pub tells : ℕ → Entry → ℕ → ℕ → ℕ → Bool
tells k Title p i q = false
tells k (Count n) p i q = false
tells k Columns p i q = false
tells k (State s) p i q = false
tells k Heading p i q = false
tells k (Step t) p i q = tells_step k t p i q
