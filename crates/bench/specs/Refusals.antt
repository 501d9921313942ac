-- What a reader is told where a call on a bench is refused.
use Rattle.std.specs.Prelude.{Some}
use Rattle.bench.specs.declared.faults.BenchFault.{BenchFault}
use Rattle.bench.specs.declared.faults.BenchFault.TheVariants.{Chart, Instance, Room, Shape, Occupied, Vacant, Unpassed, Search, Broken}
use Rattle.fault.specs.Refusals.{chart_refusal, plain}
use Rattle.fault.specs.declared.Refusal.{Refusal}
use Rattle.ranked.specs.Refusals.{instance_refusal}
use Rattle.records.specs.Refusals.{search_refusal}
use Rattle.slip.specs.Numbered.{told_rule}

abbrev pub bench_refusal : BenchFault → Refusal
bench_refusal (Chart e) = chart_refusal e
bench_refusal (Instance e) = instance_refusal e
bench_refusal Room = plain 7
bench_refusal Shape = plain 9
bench_refusal Occupied = plain 10
bench_refusal Vacant = plain 11
bench_refusal Unpassed = plain 12
bench_refusal (Search e) = search_refusal e
bench_refusal (Broken e) = record { number = 14; place = e.place; rule = Some (told_rule e.rule) }
