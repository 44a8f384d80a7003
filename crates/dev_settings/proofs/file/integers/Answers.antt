use Rattle.std.proofs.Common.{◌∙◌, arith}
use Rattle.toml.specs.Data.{as_integer}
use Rattle.toml.specs.View.{items_view}
use Rattle.dev_settings.specs.File.{listed}
use Rattle.dev_settings.proofs.FileLemmas.{each_item, integers_of-few, integers_of-many, length_listed}
use Rattle.dev_settings.proofs.file.integers.Goals as goal

pub returns-then-is_full : goal.returns-then-is_full
returns-then-is_full c =
    let full = c.is_full.ensures.full.0 c.if-is_full.true in
    integers_of-many as_integer (listed (items_view c.args.items.now))
    (omega (arith, length_listed c.args.items.now, full))

pub returns : goal.returns
returns c =
    each_item c.args.items.now c.loop-item.item-index c.loop-item.list (omega arith) c.loop-item.invariant.so_far
    ∙ integers_of-few as_integer (listed (items_view c.args.items.now)) (omega (arith, length_listed c.args.items.now))
