-- What is known of the blocks of two memories, of which the second has blocks made anew: where those of the first
-- stand, which of them are slots that are made anew, and for whom blocks of the second were made.
use Rattle.std.specs.Prelude.{ℕ, Bool, true, false, not, nat_le, if◌then◌else◌, ◌==◌, ◌++◌, ◌∷◌, [], List, length}
use Rattle.std.specs.Prelude.{slice_get, option_map, Some, None, Option, ◌≡◌, ◌<◌, ◌^◌}
use Rattle.pass_kept_proof.specs.run_memory.Memory.{access_bytes, is_killed, is_live, same_kind}
use Rattle.pass_kept_proof.specs.run_memory.declared.block.Byte.{Byte}
use Rattle.pass_kept_proof.specs.run_memory.declared.block.Kind.{Kind}
use Rattle.pass_kept_proof.specs.run_memory.declared.block.MemoryBlock.{MemoryBlock}
use Rattle.pass_kept_proof.specs.ir_model.Layout.{size_of}
use Rattle.pass_kept_proof.specs.ir_model.Names.{function_at}
use Rattle.pass_kept_proof.specs.ir_model.Ty.{Ty}
use Rattle.pass_kept_proof.specs.ir_model.declared.instr.Instr.{Instr}
use Rattle.pass_kept_proof.specs.ir_model.declared.module.Function.{Function}
use Rattle.pass_kept_proof.specs.ir_model.declared.module.GlobalItem.{GlobalItem}
use Rattle.pass_kept_proof.specs.ir_model.declared.module.Module.{Module}
use Rattle.pass_kept_proof.specs.ir_paths.Slots.{is_escaped}
use Rattle.pass_kept_proof.specs.ir_paths.declared.point.Point.{Point}
use Rattle.run_laws.specs.access.Changed.{IsFull}
use Rattle.run_laws.specs.changed.Changed.{Each}
use Rattle.run_laws.specs.embedded.Making.{whole_home}
use Rattle.run_laws.specs.memory.Pointers.{Home, home_of}
use Rattle.run_laws.specs.memory.Standing.{own_homes}
use Rattle.pass_kept_proof.specs.run_step.Step.{AtInstr, fetch, first_world}
use Rattle.pass_kept_proof.specs.run_step.Values.{access_of}
use Rattle.pass_renewed_proof.specs.Muted.{muted}
use Rattle.pass_renewed_proof.specs.Places.{IsBlank, unseen}
use Rattle.pass_renewed_proof.specs.Ready.{Place, faded, shown_of, stood}
use Rattle.pass_renewed_proof.specs.Shown.{AreShownBlocks}

-- whose slot a block is: the alloca in its function, the ramp that executed it, which is the activation with so many
-- below it, and the instance, once it has begun
pub record Seat : Type 0 where
  pub func : ℕ
  pub alloca : ℕ
  pub depth : ℕ
  pub instance : Option ℕ

pub record Ledger : Type 0 where
  -- where blocks of the first memory stand, and which of them count as dead
  pub homes : List Home
  pub hides : ℕ → Bool
  -- which of them are slots that may be made anew
  pub seats : ℕ → Option Seat
  -- the one block of the first memory that may stand in a block of the second
  pub tenants : ℕ → Option ℕ
  -- the activation, by how many are below it, whose slot a block of the second is that was made anew
  pub owners : ℕ → Option ℕ

-- ---- one block

-- a slot that may be made anew and isn't escaped
abbrev pub is_quiet : Module → Option Seat → Bool
is_quiet m None = false
is_quiet m (Some seat) = not (is_escaped (function_at m seat.func) seat.alloca)

-- the block lives
pub record LivesIn (m : List MemoryBlock) (b : ℕ) : Type 0 where
  pub block : MemoryBlock
  pub there : slice_get m b ≡ Some block
  pub is_live : is_live block.life ≡ true

-- the block doesn't come back, if there is one
abbrev pub IsGone : List MemoryBlock → ℕ → Type 0
IsGone m b = (x : MemoryBlock) → slice_get m b ≡ Some x → is_killed x.life ≡ true

-- pointers into the block may be about, or it lives and isn't hidden
pub data IsAbout (l : Ledger) (m : List MemoryBlock) (b : ℕ) : Type 0 where
  Seen : (home_of l.homes b).is_seen ≡ true → IsAbout l m b
  Lives : LivesIn (muted l.hides m) b → IsAbout l m b

-- no pointer into the block is about, and it holds nothing that would be lost
pub record IsFresh (l : Ledger) (m : List MemoryBlock) (b : ℕ) : Type 0 where
  pub unseen : (home_of l.homes b).is_seen ≡ false
  pub blank : (x : MemoryBlock) → slice_get m b ≡ Some x → is_live x.life ≡ true → IsBlank x

-- the block stands in the second memory's block c from its start on
pub record IsHomeOf (l : Ledger) (b c : ℕ) : Type 0 where
  pub is_seen : Bool
  pub home : home_of l.homes b ≡ record { block = c; offset = 0; is_seen = is_seen }
  pub shown : l.hides b ≡ false

-- the block has the size of the alloca's type, which is one of 64 bits, and its alignment
pub record IsOfAlloca (m : Module) (f : Function) (alloca : ℕ) (x : MemoryBlock) : Type 0 where
  pub place : Point
  pub ty : Ty
  pub align : ℕ
  pub stands : fetch f place.block place.at ≡ AtInstr (Instr.Alloca alloca ty align)
  pub has_size : x.size ≡ size_of m ty
  pub small : size_of m ty < 2 ^ 64
  pub has_align : x.align ≡ align

-- any other block stands in one that differs from it at most in its bytes
pub record IsMate (l : Ledger) (n : List MemoryBlock) (b : ℕ) (x : MemoryBlock) : Type 0 where
  pub block : ℕ
  pub home : home_of l.homes b ≡ whole_home block
  pub shown : l.hides b ≡ false
  pub bytes : List Byte
  pub there : slice_get n block ≡ Some (record x { bytes = bytes })
  pub owner : l.owners block ≡ None

-- ---- all blocks

pub record AreEntered (m : Module) (l : Ledger) (memory target : List MemoryBlock) : Type 0 where
  pub known : length l.homes ≡ length memory
  pub hidden : (b : ℕ) → l.hides b ≡ true → (home_of l.homes b).is_seen ≡ false
  pub present : (b : ℕ) → l.hides b ≡ true → b < length memory
  pub globals : (b : ℕ) → b < length m.globals → home_of l.homes b ≡ whole_home b
  -- no two stand in one block
  pub alone : (b : ℕ) → IsAbout l memory b → l.tenants (home_of l.homes b).block ≡ Some b
  pub owned : (c depth : ℕ) → l.owners c ≡ Some depth → c < length target
  pub seated : (b : ℕ) (seat : Seat) → l.seats b ≡ Some seat → b < length memory
  -- slots are of another kind than blocks of allocators
  pub kinds : (b : ℕ) (seat : Seat) (x : MemoryBlock) → l.seats b ≡ Some seat → slice_get memory b ≡ Some x
      → same_kind x.kind Kind.Allocator ≡ false
  -- a slot has the size and the alignment of its alloca
  pub shapes : (b : ℕ) (seat : Seat) (x : MemoryBlock) → l.seats b ≡ Some seat → slice_get memory b ≡ Some x
      → IsOfAlloca m (function_at m seat.func) seat.alloca x
  -- a slot stands in a block that an activation has made, and nobody owns such a block
  pub placed : (b : ℕ) (seat : Seat) → l.seats b ≡ Some seat
      → (depth : ℕ) × (l.owners (home_of l.homes b).block ≡ Some depth)
  pub unowned : (c depth : ℕ) (y : MemoryBlock) → l.owners c ≡ Some depth → slice_get target c ≡ Some y
      → y.owned ≡ None
  pub mates : (b : ℕ) (x : MemoryBlock) → l.seats b ≡ None → slice_get memory b ≡ Some x → IsMate l target b x
  pub full : (c : ℕ) → IsFull target c
  -- between steps no pointer is about into a slot that isn't escaped
  pub quiet : (b : ℕ) → is_quiet m (l.seats b) ≡ true → (home_of l.homes b).is_seen ≡ false
  pub shown : AreShownBlocks (λ b. is_quiet m (l.seats b)) memory
  -- nor into a block that isn't there yet
  pub future : AreShownBlocks (λ b. nat_le (length memory) b) memory

-- ---- new blocks

-- the same but for one number
abbrev pub updated : {A : Type 0} → (ℕ → A) → ℕ → A → ℕ → A
updated f n v k = if k == n then v else f k

-- the second memory has one block more, which an activation with so many below it has made anew
abbrev pub anew_ledger : Ledger → (count depth : ℕ) → (tenant : Option ℕ) → Ledger
anew_ledger l count depth tenant =
    record l { tenants = updated l.tenants count tenant; owners = updated l.owners count (Some depth) }

-- both have one more, which is a slot that may be made anew; no pointer to it is about
abbrev pub slot_ledger : Ledger → (first count depth : ℕ) → Seat → Ledger
slot_ledger l first count depth seat =
    record (anew_ledger l count depth (Some first)) {
      homes = l.homes ++ unseen (whole_home count) ∷ [];
      seats = updated l.seats first (Some seat);
    }

-- both have one more
abbrev pub block_ledger : Ledger → (first count : ℕ) → Ledger
block_ledger l first count = record l {
  homes = l.homes ++ whole_home count ∷ [];
  tenants = updated l.tenants count (Some first);
}

-- ---- an instance that begins

-- where there was none, and it is the activation's, there is the one that it begins
abbrev pub begun_instance : Option ℕ → (own : Bool) → (number : ℕ) → Option ℕ
begun_instance (Some i) own number = Some i
begun_instance None true number = Some number
begun_instance None false number = None

-- a seat whose ramp has so many activations below it gets the instance that the ramp begins
abbrev pub begun_seat : (depth number : ℕ) → Seat → Seat
begun_seat depth number seat =
    record seat { instance = begun_instance seat.instance (seat.depth == depth) number }

abbrev pub begun_ledger : Ledger → (depth number : ℕ) → Ledger
begun_ledger l depth number = record l { seats = λ b. option_map (begun_seat depth number) (l.seats b) }

-- ---- slots that are used

-- they come to stand in the activation's own blocks; pointers into those that aren't escaped are no longer about
-- afterwards
abbrev pub used_ledger : Module → Ledger → List Place → Ledger
used_ledger m l ps =
    record l {
      homes = faded (λ b. is_quiet m (l.seats b)) (stood l.homes ps) ps;
      hides = shown_of l.hides ps;
    }

-- each is a slot, and the only one that may stand in its place, which an activation has made
pub record IsTheirs (l : Ledger) (p : Place) : Type 0 where
  pub seat : Seat
  pub seated : l.seats p.block ≡ Some seat
  pub tenant : l.tenants p.target ≡ Some p.block
  pub depth : ℕ
  pub owner : l.owners p.target ≡ Some depth

abbrev pub AreTheirs : Ledger → List Place → Type 0
AreTheirs l ps = Each (IsTheirs l) ps

-- ---- the start

-- globals have sizes of 64 bits
abbrev pub AreSmallGlobals : Module → Type 0
AreSmallGlobals m = Each (λ (g : GlobalItem). access_bytes (access_of g.ty) < 2 ^ 64) m.globals

-- each global stands at its own number, and there are no slots
abbrev pub first_ledger : Module → Ledger
first_ledger m =
    record {
      homes = own_homes 0 (length (first_world m).memory);
      hides = λ b. false;
      seats = λ b. None;
      tenants = λ b. Some b;
      owners = λ b. None;
    }
