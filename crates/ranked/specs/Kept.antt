-- The automaton that a snapshot keeps.
use Rattle.chart.specs.Automata.{Automaton}
use Rattle.chart.specs.Kinds.{rowwise}
use Rattle.ranked.specs.declared.snapshots.Snapshot.{Snapshot}

-- row p * 16 + i is that of state p and letter i
abbrev pub kept : Snapshot → Automaton
kept s = rowwise s.states s.letters 16 s.starts s.marks s.rows
