-- Instructions by their places.
use Rattle.std.specs.Prelude.{ℕ, Bool, false, List, Some, None, Option, ◌&&◌, ◌==◌}
use Rattle.std.specs.List.{list_any}
use Rattle.std.specs.Option.{option_map_or}
use Rattle.ir_base.specs.declared.outcome.Item.{Item}
use Rattle.ir_base.specs.declared.outcome.Place.{Place}
use Rattle.pass_elide.specs.declared.places.CallPlace.{CallPlace}

-- an instruction of a function; its position counts the phis of its block
abbrev pub call_place_at : Item → Option ℕ → Option ℕ → Option CallPlace
call_place_at (Item.Function f) (Some b) (Some i) = Some (record { func = f; block = b; at = i })
call_place_at _ _ _ = None

abbrev pub call_place_of : Place → Option CallPlace
call_place_of p = call_place_at p.item p.block p.instr

abbrev pub same_call_place : CallPlace → CallPlace → Bool
same_call_place a b = (a.func == b.func) && ((a.block == b.block) && (a.at == b.at))

-- the place is that of the instruction
abbrev pub is_at : CallPlace → Place → Bool
is_at s p = option_map_or (λ t. same_call_place t s) (call_place_of p) false

-- a site is there
abbrev pub is_site : List Place → CallPlace → Bool
is_site sites s = list_any (is_at s) sites
