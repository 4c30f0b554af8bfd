-- What is seen of a run.
pub use Rattle.run_agreement.specs.Machines.{Seen, SeenEvent, iterate}
use Rattle.std.specs.Prelude.{map, slice_get, Some, None, Option}
use Rattle.ir_paths.specs.ir_base.declared.name.Name.{Name}
use Rattle.ir_paths.specs.ir_base.declared.outcome.Event.{Event}
use Rattle.ir_paths.specs.ir_base.declared.outcome.Outcome.{Outcome}
use Rattle.ir_paths.specs.ir_model.declared.module.Declaration.{Declaration}
use Rattle.ir_paths.specs.ir_model.declared.module.Module.{Module}
use Rattle.run_step.specs.declared.world.World.{World}

abbrev pub name_of_declaration : Option Declaration → Name
name_of_declaration None = Name.Number 0
name_of_declaration (Some d) = d.name

abbrev pub seen_event : Module → Event → SeenEvent
seen_event m e = record { name = name_of_declaration (slice_get m.declarations e.func); args = e.args }

abbrev pub seen_of : Module → World → Outcome → Seen
seen_of m world outcome = record { events = map (seen_event m) world.events; outcome = outcome; allocs = world.allocs }
