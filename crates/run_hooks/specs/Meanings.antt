-- The hooks of the four meanings that keep instances.
use Rattle.std.specs.Prelude.{true, false, None}
use Rattle.pass_renewed_proof.specs.run_framed.Framed.{FramedGiven, allocates, continue_framed, frame_rights, framed_begin}
use Rattle.pass_renewed_proof.specs.run_framed.Framed.{framed_finish, framed_promise, framed_slot, freed_address, given_call}
use Rattle.pass_renewed_proof.specs.pass_kept_proof.Kept.{Keep, continue_keeping}
use Rattle.pass_renewed_proof.specs.Renewed.{RenewedGiven, continue_renewed, is_idle, renewed_slot, with_life}
use Rattle.pass_renewed_proof.specs.run_memory.Memory.{owner_rights}
use Rattle.pass_renewed_proof.specs.run_source.Source.{Continues, begin, continue, finish, frame_address, new_slot, promise}
use Rattle.pass_renewed_proof.specs.run_source.State.{own_instance}
use Rattle.pass_renewed_proof.specs.run_source_tables.Given.{Given}
use Rattle.run_hooks.specs.Hooks.{Hooks}

-- the source's, but for a way to go on behind a suspend
abbrev pub hooks_by : Given → Continues → Hooks
hooks_by g go =
    record {
      given = g;
      rights = λ instances. owner_rights;
      go_on = go;
      enters = false;
      place = new_slot g;
      allocates = λ s. true;
      start = begin g;
      freed = λ s. frame_address (own_instance s);
      close = finish;
      promised = promise g;
      given_call = λ s fetched. None;
      is_idle = λ s fetched. false;
    }

abbrev pub source_hooks : Given → Hooks
source_hooks g = hooks_by g (continue g)

-- a resume hands on some values
abbrev pub kept_hooks : Given → Keep → Hooks
kept_hooks g keep = hooks_by g (continue_keeping g keep)

-- a resumed activation makes flagged slots anew, whose markers do nothing
abbrev pub renewed_hooks : RenewedGiven → Hooks
renewed_hooks g =
    record (hooks_by g.given (continue_renewed g)) {
      enters = true;
      place = λ s slot. renewed_slot g (with_life g s slot) slot s.top.mode;
      is_idle = λ s fetched. is_idle (g.flags s.top.func) fetched;
    }

-- frames hold the promise, values and slots, and a call may give a ramp its frame
abbrev pub framed_hooks : FramedGiven → Hooks
framed_hooks g =
    record {
      given = g.given;
      rights = frame_rights g;
      go_on = continue_framed g;
      enters = true;
      place = λ s slot. framed_slot g s slot s.top.mode;
      allocates = λ s. allocates s.top.mode;
      start = λ s result memory. framed_begin g s result memory s.top.mode;
      freed = λ s. freed_address s.world.memory (own_instance s);
      close = framed_finish;
      promised = framed_promise g;
      given_call = given_call g;
      is_idle = λ s fetched. false;
    }
