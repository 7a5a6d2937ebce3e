-- Each byte of an image is below 256. Assumes nothing.
use mathlib.Core.List.{List}
use Rattle.number.specs.Little.{Bytes}
use Rattle.number.proofs.LittleLaws.{bytes-tab}
use Rattle.map.specs.FormMap.{FormMap}
use Rattle.map.specs.Map.{within}
use Rattle.plain.specs.Block.{Block}
use Rattle.plain.specs.Lift.{downs}
use Rattle.plain.specs.Join.{only}
use Rattle.heap_layout.specs.Image.{heap_image}
use Rattle.heap_layout.proofs.ByteLaws.{heap-byte-lt}
use Rattle.stack_layout.specs.Image.{stack_image}
use Rattle.stack_layout.proofs.ByteLaws.{primary-byte-lt, secondary-byte-lt}
use Rattle.shadows.specs.Shadows.{image}

pub image-bytes : (m : FormMap) (bs : List Block) → Bytes (image m bs).0 × Bytes (image m bs).1.0 × Bytes (image m bs).1.1
unfolding heap_image stack_image
image-bytes m bs =
    let hb : List Block = downs m.heap_start (only (within m.heap_start m.heap_size) bs) in
    let sb : List Block = downs m.stack_start (only (within m.stack_start m.stack_size) bs) in (
      bytes-tab _ (heap-byte-lt m.width m.segment hb) m.heap_size 0,
      bytes-tab _ (primary-byte-lt sb) m.stack_size 0,
      bytes-tab _ (secondary-byte-lt sb) m.stack_size 0,
    )
