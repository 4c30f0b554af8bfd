use Rattle.std.proofs.Common.{◌∙◌, ap, length, List}
use Rattle.std.specs.Prelude.{slice_get}
use Rattle.run_memory.proofs.Blocks.{within_along}
use Rattle.run_memory.proofs.Digits.{length-encode}
use Rattle.run_memory.specs.declared.block.Byte.{Byte}
use Rattle.run_memory.proofs.memory.Memory.store_with.Goals as goal

pub write-requires : goal.write-requires
write-requires g c =
    within_along (slice_get c.args.self.now c.in_ok-spot.spot.block) c.in_ok-spot.spot.offset c.bytes-len.result _
    (ap (λ (l : List Byte). length l) (c.as_slice.ensures.value ∙ c.encoded.ensures) ∙ length-encode c.bytes-len.result c.args.v)
    c.in_ok-spot.ensures.within
