-- How far a search has come.
use Rattle.std.specs.Prelude.{ℕ, Option}
use Rattle.search.specs.declared.searches.Search.{Search}

-- the stack is below `size`, and what is done is from `top` on; the search goes on at place `cur`, where `from` is the least node that is
-- to be looked at; `found` is a marked node on a cycle, once one is found
pub record Progress : Type 0 where
  pub size : ℕ
  pub top : ℕ
  pub cur : ℕ
  pub from : ℕ
  pub found : Option ℕ

abbrev pub progress : Search → Progress
progress s = record { size = s.table.size; top = s.table.top; cur = s.cur; from = s.from; found = s.found }
