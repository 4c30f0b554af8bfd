-- Homes in a row: where blocks of a memory stand in a third one, by where they stand in a second one.
use Rattle.std.specs.Prelude.{◌+◌, true, List, map}
use Rattle.compiler.specs.run_laws.memory.Pointers.{Home, home_of}

-- the home of what stands at a home of the second memory
abbrev pub joined_home : List Home → Home → Home
joined_home more h = record {
  block = (home_of more h.block).block;
  offset = h.offset + (home_of more h.block).offset;
  is_seen = true;
}

abbrev pub joined : List Home → List Home → List Home
joined homes more = map (joined_home more) homes
