-- An ordinary step of a framed run that is done, and the same step of a part.
use Rattle.std.specs.Prelude.{◌≡◌, ℕ, ℤ, List}
use Rattle.pass_proofs.specs.ir_model.declared.module.Function.{Function}
use Rattle.pass_proofs.specs.ir_model.declared.module.Module.{Module}
use Rattle.pass_split_proof.specs.states.Memories.{AreWorldsBeside, homes_of}
use Rattle.pass_proofs.specs.run_framed.Framed.{FramedGiven, frame_rights}
use Rattle.pass_proofs.specs.run_laws.access.Changed.{KeepsFree}
use Rattle.pass_proofs.specs.run_laws.embedded.Refilled.{AreRefilled}
use Rattle.pass_proofs.specs.run_laws.transfer.Transfer.{AreSet, Maps, given_at}
use Rattle.pass_proofs.specs.run_memory.Memory.{owner_rights}
use Rattle.pass_proofs.specs.run_source.declared.state.Instance.{Instance}
use Rattle.pass_proofs.specs.run_step.Step.{Context, Done, Fetched, Work, action_of}

-- the contexts of a step of the framed run and of one of its parts' run
abbrev pub ours : FramedGiven → List Instance → Module → List ℤ → Function → Context
ours g instances m answers f = record { code = m; answers = answers; rights = frame_rights g instances; function = f }

abbrev pub theirs : Module → List ℤ → Function → Context
theirs m answers f = record { code = m; answers = answers; rights = owner_rights; function = f }

-- declarations are where they were; functions and labels have others
abbrev pub part_maps : (functions labels : ℕ → ℕ) → Maps
part_maps functions labels = record { declaration = λ n. n; function = functions; label = labels }

-- The part does the same: the memories stand beside each other still, the name that is set has what stands for its
-- value, and bytes that are closed to the framed run stay.
pub record IsDoneToo (g : FramedGiven) (instances : List Instance) (d : Context) (w x : Work) (here there : Fetched)
    (v : Work) : Type 0 where
  pub work : Work
  pub does : action_of d x there ≡ Done work
  pub world : AreWorldsBeside g instances v.world work.world
  pub set : AreSet (homes_of w.world.memory) (given_at here) w.values x.values v.values work.values
  pub refilled : AreRefilled w.world.memory v.world.memory
  pub free : KeepsFree (frame_rights g instances) (homes_of w.world.memory) w.world.memory x.world.memory
      work.world.memory
