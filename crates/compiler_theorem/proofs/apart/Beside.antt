-- Instances and their slots in the run before, where slots are made anew behind it.
use Rattle.std.proofs.Common.{◌≡◌, inl, inr, ℕ, zero, suc, ◌+◌, ◌<◌, Bool, true, false, List, [], ◌∷◌, length, Option, Some, None, refl, sym, ap, ◌∙◌, subst, arith}
use Rattle.std.specs.Prelude.{IsTrue, slice_get}
use Rattle.compiler.specs.flow_solver.Paths.{IsListed}
use Rattle.compiler.specs.ir_model.declared.module.Module.{Module}
use Rattle.compiler.specs.ir_paths.declared.point.Point.{Point}
use Rattle.pass_frames_meaning.proofs.pass_frames_proof.stepping.Rest.{got, seen_known}
use Rattle.pass_frames_meaning.specs.pass_renewed_proof.Beside.{AreInstancesBeside, AreKeptBeside, AreSlots, Both, First, IsInstanceBeside, IsStatusBeside, NoSlots, Second}
use Rattle.pass_frames_meaning.specs.pass_renewed_proof.Ledger.{AreEntered, Ledger}
use Rattle.pass_frames_meaning.specs.pass_renewed_proof.Renewed.{Flags, Roots}
use Rattle.pass_frames_meaning.specs.run_hooks.alive.Slots.{life_of, lives}
use Rattle.compiler.specs.run_laws.embedded.Making.{whole_home}
use Rattle.compiler.specs.run_laws.memory.Pointers.{Home, home_of}
use Rattle.compiler.specs.run_memory.Memory.{is_live}
use Rattle.compiler.specs.run_memory.declared.block.MemoryBlock.{MemoryBlock}
use Rattle.compiler.specs.run_source.declared.state.Instance.{Instance}
use Rattle.compiler.specs.run_source.declared.state.Status.{Status}
use Rattle.compiler.specs.run_step.Values.{Env}
use Rattle.compiler.specs.run_step.declared.world.Slot.{Slot}

-- the slot of the first run that stands for one that isn't made anew
pub record IsSlotBefore (l : Ledger) (flags : ℕ → Bool) (ss : List Slot) (slot : Slot) : Type 0 where
  pub block : ℕ
  pub number : ℕ
  pub there : slice_get ss number ≡ Some (record { alloca = slot.alloca; block = block })
  pub home : home_of l.homes block ≡ whole_home slot.block
  pub unseated : l.seats block ≡ None
  pub off : flags slot.alloca ≡ false

later : (l : Ledger) (flags : ℕ → Bool) (s : Slot) (ss : List Slot) (slot : Slot) → IsSlotBefore l flags ss slot
    → IsSlotBefore l flags (s ∷ ss) slot
later l flags s ss slot k = record {
  block = k.block;
  number = suc k.number;
  there = k.there;
  home = k.home;
  unseated = k.unseated;
  off = k.off;
}

pub slot_before : (l : Ledger) (Seated : Slot → Type 0) (flags : ℕ → Bool) (ss ts : List Slot)
    → AreSlots l Seated (λ t. ⊥) flags ss ts → (slot : Slot) → IsListed slot ts → IsSlotBefore l flags ss slot
slot_before l Seated flags ss ts NoSlots slot k = absurd k
slot_before l Seated flags ss ts (Both alloca b c more others off home unseated rest) slot (inl e) = record {
  block = b;
  number = 0;
  there = ap (λ (z : Slot). Some (record { alloca = z.alloca; block = b })) (sym e);
  home = home ∙ ap (λ (z : Slot). whole_home z.block) (sym e);
  unseated = unseated;
  off = ap (λ (z : Slot). flags z.alloca) e ∙ off;
}
slot_before l Seated flags ss ts (Both alloca b c more others off home unseated rest) slot (inr k) =
    later l flags (record { alloca = alloca; block = b }) more slot
    (slot_before l Seated flags more others rest slot k)
slot_before l Seated flags ss ts (First s more others seated rest) slot k =
    later l flags s more slot (slot_before l Seated flags more others rest slot k)
slot_before l Seated flags ss ts (Second t more others owns rest) slot k = absurd owns

-- also where the second run lists slots of its own, which may be made anew
pub early_slot_before : (l : Ledger) (Seated Owns : Slot → Type 0) (flags : ℕ → Bool)
    → ((t : Slot) → Owns t → IsTrue (flags t.alloca)) → (ss ts : List Slot) → AreSlots l Seated Owns flags ss ts
    → (slot : Slot) → flags slot.alloca ≡ false → IsListed slot ts → IsSlotBefore l flags ss slot
early_slot_before l Seated Owns flags flagged ss ts NoSlots slot off k = absurd k
early_slot_before l Seated Owns flags flagged ss ts (Both alloca b c more others same home unseated rest) slot off
    (inl e) = record {
      block = b;
      number = 0;
      there = ap (λ (z : Slot). Some (record { alloca = z.alloca; block = b })) (sym e);
      home = home ∙ ap (λ (z : Slot). whole_home z.block) (sym e);
      unseated = unseated;
      off = off;
    }
early_slot_before l Seated Owns flags flagged ss ts (Both alloca b c more others same home unseated rest) slot off
    (inr k) = later l flags (record { alloca = alloca; block = b }) more slot
    (early_slot_before l Seated Owns flags flagged more others rest slot off k)
early_slot_before l Seated Owns flags flagged ss ts (First s more others seated rest) slot off k =
    later l flags s more slot (early_slot_before l Seated Owns flags flagged more others rest slot off k)
early_slot_before l Seated Owns flags flagged ss ts (Second t more others owns rest) slot off (inl e) =
    let yes : flags slot.alloca ≡ true = ap (λ (z : Slot). flags z.alloca) e ∙ flagged t owns in
    let no : true ≡ false = sym yes ∙ off in
    absurd (cc)
early_slot_before l Seated Owns flags flagged ss ts (Second t more others owns rest) slot off (inr k) =
    early_slot_before l Seated Owns flags flagged ss others rest slot off k

-- its block has a mate, so it lives where that does
pub lives_before : (m : Module) (l : Ledger) (memory target : List MemoryBlock) → AreEntered m l memory target
    → (flags : ℕ → Bool) (ss : List Slot) (slot : Slot) (k : IsSlotBefore l flags ss slot) (z : MemoryBlock)
    → slice_get target slot.block ≡ Some z → is_live z.life ≡ true → lives memory k.block ≡ true
lives_before m l memory target entered flags ss slot k z there live =
    let low : k.block < length l.homes = seen_known l.homes k.block (ap (λ (q : Home). q.is_seen) k.home) in
    let known : length l.homes ≡ length memory = entered.known in
    let x = got memory k.block (omega (arith, low, known)) in
    let mate = entered.mates k.block x.0 k.unseated x.1 in
    let same : mate.block ≡ slot.block = ap (λ (q : Home). q.block) (sym mate.home ∙ k.home) in
    let both : Some (record x.0 { bytes = mate.bytes }) ≡ Some z =
    sym mate.there ∙ ap (slice_get target) same ∙ there in
    let is : record x.0 { bytes = mate.bytes } ≡ z = cc in
    ap (λ (o : Option MemoryBlock). is_live (life_of o)) x.1
    ∙ ap (λ (y : MemoryBlock). is_live y.life) is ∙ live

-- the instance of the first run
pub instance_before : (m : Module) (flags : Flags) (roots : Roots) (l : Ledger) (memory : List MemoryBlock) (i : ℕ)
    (xs ys : List Instance) (j : ℕ) (y : Instance) → AreInstancesBeside m flags roots l memory i xs ys
    → slice_get ys j ≡ Some y
    → (x : Instance) × (slice_get xs j ≡ Some x) × IsInstanceBeside m flags roots l memory (i + j) x y
instance_before m flags roots l memory i [] [] j y h e = absurd (cc)
instance_before m flags roots l memory i [] (w ∷ ys) j y h e = absurd h
instance_before m flags roots l memory i (x ∷ xs) [] j y h e = absurd h
instance_before m flags roots l memory i (x ∷ xs) (w ∷ ys) zero y h e =
    let n : i ≡ i + 0 = omega arith in
    let same : w ≡ y = cc in (
      x,
      refl,
      subst (λ (q : ℕ × Instance). IsInstanceBeside m flags roots l memory q.0 x q.1) (λ k. (n k, same k)) h.0,
    )
instance_before m flags roots l memory i (x ∷ xs) (w ∷ ys) (suc j) y h e =
    let z = instance_before m flags roots l memory (i + 1) xs ys j y h.1 e in
    let n : (i + 1) + j ≡ i + suc j = omega arith in
    (z.0, z.1, subst (λ k. IsInstanceBeside m flags roots l memory k z.0 y) n z.2)

-- it is suspended at the same suspend
pub record IsAsleepBefore (m : Module) (flags : Flags) (roots : Roots) (l : Ledger) (memory : List MemoryBlock)
    (x : Instance) (p : Point) (other : Env) : Type 0 where
  pub env : Env
  pub status : x.status ≡ Status.Suspended p env
  pub kept : AreKeptBeside m flags roots l memory x p env other

pub asleep_before : (m : Module) (flags : Flags) (roots : Roots) (l : Ledger) (memory : List MemoryBlock)
    (x : Instance) (t : Status) → IsStatusBeside m flags roots l memory x x.status t → (p : Point) (other : Env)
    → t ≡ Status.Suspended p other → IsAsleepBefore m flags roots l memory x p other
asleep_before m flags roots l memory x t h p other e = on x.status refl h
  where
    on : (s : Status) → x.status ≡ s → IsStatusBeside m flags roots l memory x s t
        → IsAsleepBefore m flags roots l memory x p other
    on Status.Running d k = absurd (cc)
    on (Status.Suspended s env) d k =
        let both : Status.Suspended s k.0 ≡ Status.Suspended p other = sym k.1 ∙ e in
        let same : s ≡ p = cc in
        let now : k.0 ≡ other = cc in
        record {
          env = env;
          status = d ∙ ap (λ (q : Point). Status.Suspended q env) same;
          kept = subst (λ (q : Point × Env). AreKeptBeside m flags roots l memory x q.0 env q.1)
              (λ j. (same j, now j)) k.2;
        }
    on Status.Finished d k = absurd (cc)
