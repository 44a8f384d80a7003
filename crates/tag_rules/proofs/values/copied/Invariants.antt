use Rattle.std.proofs.Common.{◌≡◌, map, vec_len}
use Rattle.std.specs.List.{range_with_len}
use Rattle.tiff_dirs.specs.Header.{order_of}
use Rattle.tiff_dirs.specs.Values.{number_in}
use Rattle.tag_rules.proofs.values.copied.Given as goal

abbrev pub invariant-loop-i : goal.invariant-loop-i
invariant-loop-i l = record {
  numbers : l.numbers.items ≡ map (number_in (order_of l.tiff) l.entry.kind l.entry.value.now) (range_with_len 0 l.i);
  count : vec_len l.numbers ≡ l.i;
}
