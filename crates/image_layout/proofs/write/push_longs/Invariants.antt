use Rattle.std.proofs.Common.{◌≡◌, ◌++◌, take}
use Rattle.std.specs.Prelude.{flat_map}
use Rattle.byteorder.specs.Endian.{little_bytes}
use Rattle.image_layout.proofs.write.push_longs.Given as goal

abbrev pub invariant-loop-long : goal.invariant-loop-long
invariant-loop-long l = l.out.items ≡ l.initial.out.items ++ flat_map (little_bytes 8) (take l.long-index l.longs)
