-- The word for a kind, in bytes.
use Rattle.std.specs.Prelude.{ℕ, List, codes}
use Rattle.slip.specs.declared.kinds.Kind.{Kind}
use Rattle.slip.specs.declared.kinds.Kind.TheVariants.{Keep, Break}

abbrev pub kind_text : Kind → List ℕ
kind_text Keep = codes "keep"
kind_text Break = codes "break"
