-- The map of the areas: a struct of the code, whose 32-bit fields are `heap_start`, `heap_size`, `stack_start` and `stack_size`. Assumes nothing.
pub use Rattle.map.specs.declared.Map.{Map}
