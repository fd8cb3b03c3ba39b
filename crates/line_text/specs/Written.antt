-- What is written of items.
use Rattle.std.specs.Prelude.{ℕ, List, ◌++◌, codes, decimal}
use Rattle.tp_spec.specs.declared.plan.Item.{Item}
use Rattle.tp_spec.specs.declared.plan.Item.TheVariants.{TimedAt, End, Start}

-- the timed item k is `Tk`, the end of the action a is `Ea`, its start `Sa`
abbrev pub item_text : Item → List ℕ
item_text (TimedAt k) = codes "T" ++ decimal k
item_text (End a) = codes "E" ++ decimal a
item_text (Start a) = codes "S" ++ decimal a
