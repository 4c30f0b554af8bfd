-- An ordinary step over a source memory, of which some blocks count as dead, and over a target memory in which it stands.
use Rattle.std.specs.Prelude.{ℕ, Bool, List, Some, None, Option, length, map, ◌≡◌, ◌≤◌, IsTrue}
use Rattle.pass_kept_proof.specs.run_memory.Memory.{owner_rights}
use Rattle.pass_kept_proof.specs.run_memory.declared.pointer.Value.{Value}
use Rattle.pass_kept_proof.specs.ir_base.declared.name.Name.{Name}
use Rattle.pass_kept_proof.specs.Needed.{given_by, reads_at}
use Rattle.run_laws.specs.memory.Pointers.{Home, IsValue}
use Rattle.pass_kept_proof.specs.run_step.Step.{Action, AtInstr, AtTerm, Context, Coro, Deallocate, Done, Enter, Fetched, GoTo, NewSlot, Nowhere, Return, Stuck, Work}
use Rattle.pass_kept_proof.specs.run_step.Values.{Env, address_of, value_in}
use Rattle.pass_kept_proof.specs.run_step.declared.world.World.{World}
use Rattle.pass_renewed_proof.specs.Muted.{muted}
use Rattle.pass_renewed_proof.specs.Small.{ComparesSmall, small_rights}
use Rattle.run_laws.specs.embedded.Related.{AreValues, HasBytes, HasDistance, HasNoSlot, moved_event}
use Rattle.run_laws.specs.memory.Standing.{AreBoundsKept, AreNullsKept, Embeds}

-- the name whose value what stands at a place sets
abbrev pub given_at : Fetched → Option ℕ
given_at Nowhere = None
given_at (AtInstr i) = given_by i
given_at (AtTerm t) = None

-- no other name is set
abbrev pub SetsOnly : Option ℕ → Env → Action → Type 0
SetsOnly given env (Done w) = (v : ℕ) → (given ≡ Some v → ⊥) → value_in w.values v ≡ value_in env v
SetsOnly given env (NewSlot w slot) = (v : ℕ) → (given ≡ Some v → ⊥) → value_in w.values v ≡ value_in env v
SetsOnly given env _ = Unit {0}

-- the source's memory without its hidden blocks stands in the target's, with the rights of owners, and both have seen the same
abbrev pub muted_world : (ℕ → Bool) → World → World
muted_world hides s = record s { memory = muted hides s.memory }

-- comparisons with null are kept at offsets of 64 bits
pub record AreOver (homes : List Home) (hides : ℕ → Bool) (s t : World) : Type 0 where
  pub memory : Embeds owner_rights owner_rights homes (muted hides s.memory) t.memory
  pub nulls : AreNullsKept small_rights owner_rights homes (muted hides s.memory) t.memory
  pub bounds : AreBoundsKept homes (muted hides s.memory) t.memory
  pub events : t.events ≡ map (moved_event (λ d. d)) s.events
  pub answers : t.answers_used ≡ s.answers_used
  pub allocs : t.allocs ≡ s.allocs

-- what the instruction reads stands for what it reads in the source, and so do globals and functions; a getelementptr has the same distance; what is loaded or stored has a byte; and no block is made, marked or allocated
pub record IsRead (homes : List Home) (c : Context) (env other : Env) (here : Fetched) : Type 0 where
  pub reads : (v : ℕ) → IsTrue (reads_at v here) → IsValue homes (value_in env v) (value_in other v)
  pub room : length env ≤ length other
  pub globals : (n : Name) → IsValue homes (address_of c.code n) (address_of c.code n)
  pub distance : HasDistance c c env other here
  pub small : ComparesSmall c.code env here
  pub no_slot : HasNoSlot here
  pub bytes : HasBytes here

-- the name that is set has what stands for what it has in the source, and no other name is set
pub record AreSet (homes : List Home) (given : Option ℕ) (w x v y : Work) : Type 0 where
  pub stands : (name : ℕ) → given ≡ Some name → IsValue homes (value_in v.values name) (value_in y.values name)
  pub source : (name : ℕ) → (given ≡ Some name → ⊥) → value_in v.values name ≡ value_in w.values name
  pub target : (name : ℕ) → (given ≡ Some name → ⊥) → value_in y.values name ≡ value_in x.values name
  pub room : length v.values ≤ length y.values

-- the target does the same with what stands for the source's values, unless the source is undefined
abbrev pub GoesOver : List Home → (ℕ → Bool) → Option ℕ → Work → Work → Action → Action → Type 0
GoesOver homes hides given w x (Done v) b = (y : Work) × (b ≡ Done y) × AreOver homes hides v.world y.world × AreSet homes given w x v y
GoesOver homes hides given w x (NewSlot v slot) b = ⊥
GoesOver homes hides given w x (Enter func args result must_tail) b = (others : List Value) × (b ≡ Enter func others result must_tail) × AreValues homes args others
GoesOver homes hides given w x (Coro i args result) b = b ≡ Coro i args result
GoesOver homes hides given w x (Deallocate p) b = (q : Value) × (b ≡ Deallocate q) × IsValue homes p q
GoesOver homes hides given w x (GoTo label) b = b ≡ GoTo label
GoesOver homes hides given w x (Return None) b = b ≡ Return None
GoesOver homes hides given w x (Return (Some v)) b = (u : Value) × (b ≡ Return (Some u)) × IsValue homes v u
GoesOver homes hides given w x (Stuck cause) b = Unit {0}
