-- What elision is of, and in what an activation differs whose frame was given.
use Rattle.std.specs.Prelude.{◌≡◌, ℕ, ℤ, Bool, false, List, None, Option, is_some, ◌&&◌, ◌||◌}
use Rattle.pass_elide.specs.Elided.{elided_function, elided_module, frame_in}
use Rattle.pass_elide_proof.specs.Places.{Rooms}
use Rattle.pass_proofs.specs.frame_layout.declared.layout.Layouts.{Layouts}
use Rattle.pass_proofs.specs.ir_base.declared.outcome.Place.{Place}
use Rattle.pass_proofs.specs.ir_base.declared.name.Name.{Name}
use Rattle.pass_proofs.specs.ir_model.Names.{declaration_named, function_at, function_named}
use Rattle.pass_proofs.specs.ir_model.declared.module.Function.{Function}
use Rattle.pass_proofs.specs.ir_model.declared.module.Module.{Module}
use Rattle.pass_proofs.specs.run_framed.Framed.{FramedGiven, framed_given, given_ramp}
use Rattle.pass_proofs.specs.run_step.Step.{first_world}

-- ---- an activation whose frame was given, beside one that allocates it

-- By blocks and names of a coroutine. The given one stays at the end of a block while the other is in a block that
-- allocates or frees. Behind such a block both come over a block of their own to the same block.
pub record Shape : Type 0 where
  -- the block at whose end a given ramp waits while the other one allocates
  pub waits : ℕ → Option ℕ
  -- the block at whose end a given activation waits while the other one frees
  pub frees : ℕ → Option ℕ
  -- the block in which it is while the other is in one on the edge behind such a block
  pub aside : ℕ → Option ℕ
  -- what coro.alloc gives, and, where a ramp allocates, the allocator, the phi before begin and all that is made there
  pub need : ℕ → Bool
  pub made : ℕ → Bool
  -- what coro.free gives, a test of that for null, true if it is eq, and all that is made where a block is freed
  pub freed : ℕ → Bool
  pub tested : ℕ → Option Bool
  pub passed : ℕ → Bool
  -- the name that has the block in which the coroutine hasn't begun yet, at a position of a block
  pub holds : (block at : ℕ) → Option ℕ

-- of a coroutine whose calls give no frame
abbrev pub no_shape : Shape
no_shape =
    record {
      waits = λ b. None;
      frees = λ b. None;
      aside = λ b. None;
      need = λ v. false;
      made = λ v. false;
      freed = λ v. false;
      tested = λ v. None;
      passed = λ v. false;
      holds = λ block at. None;
    }

-- the names that have other values in a ramp, and in any activation, whose frame was given
abbrev pub differs_in : Shape → (ramp given : Bool) → ℕ → Bool
differs_in x ramp given v =
    (ramp && (x.need v || x.made v)) || (given && (x.freed v || (is_some (x.tested v) || x.passed v)))

-- ---- what is given

-- the framed form, the layouts of its coroutines, the sites in its other functions, the answers, and the shapes of
-- coroutines
pub record Elision : Type 0 where
  pub code : Module
  pub layouts : Layouts
  pub sites : List Place
  pub answers : List ℤ
  pub shape : ℕ → Shape

abbrev pub elided_code : Elision → Module
elided_code e = elided_module e.layouts e.sites e.code

-- the framed run, and the one in which callees are given frames
abbrev pub framed : Elision → FramedGiven
framed e = framed_given e.code e.layouts.coroutines e.answers

abbrev pub elided : Elision → FramedGiven
elided e = framed_given (elided_code e) e.layouts.coroutines e.answers

abbrev pub function_in : Elision → ℕ → Function
function_in e func = function_at e.code func

abbrev pub function_in_elided : Elision → ℕ → Function
function_in_elided e func = function_at (elided_code e) func

abbrev pub rooms : Elision → ℕ → Rooms
rooms e func = frame_in e.code e.layouts.coroutines e.sites func (function_in e func)

-- Functions, declarations and globals are found in the elided module as they are in the framed form.
pub record FindsAlike (e : Elision) : Type 0 where
  pub functions : (func : ℕ) → function_in_elided e func ≡ elided_function (rooms e func) (function_in e func)
  pub named : (n : Name) → function_named (elided_code e) n ≡ function_named e.code n
  pub declared : (n : Name) → declaration_named (elided_code e) n ≡ declaration_named e.code n
  pub ramps : (n : Name) → given_ramp (elided_code e) n ≡ given_ramp e.code n
  pub worlds : first_world (elided_code e) ≡ first_world e.code
