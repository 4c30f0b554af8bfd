-- Suspended instances where slots are made anew, and what the fields of their frames hold.
use Rattle.std.proofs.Common.{◌≡◌, ℕ, zero, suc, List, [], ◌∷◌, Some, length, take, drop, refl, sym, ap, ◌∙◌, subst}
use Rattle.std.specs.Prelude.{slice_get}
use Rattle.compiler_theorem.proofs.theorem.shown.Encoded.{decoded_stand, distance_stands}
use Rattle.compiler_theorem.proofs.theorem.shown.Renewed.{instance_beside}
use Rattle.compiler_theorem.specs.theorem.SharedBytes.{StandAt}
use Rattle.compiler_theorem.specs.theorem.ShownSlots.{step_homes}
use Rattle.compiler_theorem.specs.theorem.Suspended.{IsSuspendedAs}
use Rattle.compiler.specs.ir_model.declared.module.Module.{Module}
use Rattle.compiler.specs.ir_paths.declared.point.Point.{Point}
use Rattle.pass_frames_meaning.specs.pass_renewed_meaning.Followed.{AreInStep, Ended, Goes}
use Rattle.pass_frames_meaning.specs.pass_renewed_proof.Beside.{IsBeside, IsStatusBeside}
use Rattle.pass_frames_meaning.specs.pass_renewed_proof.Renewed.{Flags, Roots}
use Rattle.pass_frames_meaning.specs.pass_renewed_proof.SlotEnvs.{AreSlotEnvs}
use Rattle.compiler.specs.run_laws.access.Lines.{Holds}
use Rattle.compiler.specs.run_laws.memory.Pointers.{AreBytes, Home, IsValue}
use Rattle.compiler.specs.run_memory.Memory.{Rights, decode, digits, encode}
use Rattle.compiler.specs.run_memory.declared.block.Byte.{Byte}
use Rattle.compiler.specs.run_memory.declared.block.MemoryBlock.{MemoryBlock}
use Rattle.compiler.specs.run_memory.declared.pointer.Access.{Access}
use Rattle.compiler.specs.run_memory.declared.pointer.Value.{Value}
use Rattle.pass_frames_meaning.proofs.run_slots.Times.{same_there}
use Rattle.compiler.specs.run_source.declared.state.Instance.{Instance}
use Rattle.compiler.specs.run_source.declared.state.State.{State}
use Rattle.compiler.specs.run_source.declared.state.Status.{Status}
use Rattle.compiler.specs.run_step.Values.{Env}
use Rattle.pass_frames_meaning.specs.run_types.Fitting.{HaveBytes}
use Rattle.pass_frames_meaning.specs.run_types.Fitting as fitting

-- ---- where slots are made anew

pub record HasSuspended (homes : List Home) (roots : Roots) (ys : List Instance) (i c : ℕ) (p : Point) (values : Env)
    : Type 0 where
  pub others : Env
  pub own : IsSuspendedAs ys i c p others
  pub envs : AreSlotEnvs homes (roots c) values others

module _ (m : Module) (flags : Flags) (roots : Roots) where
  beside_suspended : (s u : State) (b : IsBeside m flags roots s u) (i c : ℕ) (p : Point) (values : Env)
      → IsSuspendedAs s.instances i c p values → HasSuspended b.ledger.homes roots u.instances i c p values
  beside_suspended s u b i c p values h =
      let r = instance_beside m flags roots b.ledger s.world.memory 0 s.instances u.instances b.instances i h.instance
      h.there in
      let st = subst (λ (z : Status). IsStatusBeside m flags roots
      b.ledger s.world.memory h.instance z r.beside.status)
      h.status r.beside.statuses in
      record {
        others = st.0;
        own = record {
          instance = r.instance;
          there = r.there;
          coroutine = ap (λ (y : Instance). y.coroutine) r.beside.is ∙ h.coroutine;
          status = ap (λ (y : Instance). y.status) r.beside.is ∙ st.1;
          unfreed = ap (λ (y : Instance). y.freed) r.beside.is ∙ h.unfreed;
        };
        envs = subst (λ (k : ℕ). AreSlotEnvs b.ledger.homes (roots k) values st.0) h.coroutine st.2.envs;
      }

  like_suspended : (xs ys : List Instance) (i c : ℕ) (p : Point) (values : Env) → ys ≡ xs
      → IsSuspendedAs xs i c p values → IsSuspendedAs ys i c p values
  like_suspended xs ys i c p values e h = record {
    instance = h.instance;
    there = ap (λ (zs : List Instance). slice_get zs i) e ∙ h.there;
    coroutine = h.coroutine;
    status = h.status;
    unfreed = h.unfreed;
  }

  pub step_suspended : (s u : State) (h : AreInStep m flags roots s u) (i c : ℕ) (p : Point) (values : Env)
      → IsSuspendedAs s.instances i c p values
      → HasSuspended (step_homes m flags roots s u h) roots u.instances i c p values
  step_suspended s u (Goes b) i c p values h = beside_suspended s u b i c p values h
  step_suspended s u (Ended e) i c p values h =
      let r = e.last in
      let k = beside_suspended r.before r.other r.beside i c p values
      (like_suspended s.instances r.before.instances i c p values
      (ap (λ (v : State). v.instances) (sym r.is)) h) in
      record {
        others = k.others;
        own = like_suspended r.other.instances u.instances i c p k.others (ap (λ (v : State). v.instances) r.other_is)
            k.own;
        envs = k.envs;
      }

-- ---- what a field holds

fit_drop : (n : ℕ) (bs : List Byte) → fitting.AreBytes bs → fitting.AreBytes (drop n bs)
fit_drop zero bs h = h
fit_drop (suc n) [] h = h
fit_drop (suc n) (b ∷ bs) h = fit_drop n bs h.1

fit_take : (n : ℕ) (bs : List Byte) → fitting.AreBytes bs → fitting.AreBytes (take n bs)
fit_take zero bs h = tt
fit_take (suc n) [] h = tt
fit_take (suc n) (b ∷ bs) h = (h.0, fit_take n bs h.1)

fit_at : (memory : List MemoryBlock) (n : ℕ) (x : MemoryBlock) → HaveBytes memory → slice_get memory n ≡ Some x
    → fitting.AreBytes x.bytes
fit_at [] n x h e = absurd (cc)
fit_at (z ∷ memory) zero x h e =
    let same : z ≡ x = cc in subst (λ (y : MemoryBlock). fitting.AreBytes y.bytes) same h.0
fit_at (z ∷ memory) (suc n) x h e = fit_at memory n x h.1 e

as_long : (homes : List Home) (xs ys : List Byte) → AreBytes homes xs ys → length ys ≡ length xs
as_long homes [] [] h = refl
as_long homes [] (y ∷ ys) h = absurd h
as_long homes (x ∷ xs) [] h = absurd h
as_long homes (x ∷ xs) (y ∷ ys) h = ap suc (as_long homes xs ys h.1)

module _ (rights : Rights) (memory : List MemoryBlock) (b o most : ℕ) (bytes : List Byte) (block : MemoryBlock)
    (fit : HaveBytes memory) (h : Holds rights memory b o most bytes) (there : slice_get memory b ≡ Some block) where
  same : h.block ≡ block
  same = same_there (slice_get memory b) h.block block h.there there

  holds : take (length bytes) (drop o block.bytes) ≡ bytes
  holds = ap (λ (z : MemoryBlock). take (length bytes) (drop o z.bytes)) (sym same) ∙ h.holds

  bytes_fit : fitting.AreBytes bytes
  bytes_fit = subst fitting.AreBytes holds
      (fit_take (length bytes) (drop o block.bytes) (fit_drop o block.bytes (fit_at memory b block fit there)))

  stands_there : (homes : List Home) (xs : List Byte) → AreBytes homes xs bytes → StandAt homes xs block o
  stands_there homes xs k =
      subst (λ (n : ℕ). AreBytes homes xs (take n (drop o block.bytes))) (as_long homes xs bytes k)
      (subst (AreBytes homes xs) (sym holds) k)

  pub value_held : (homes : List Home) (what : Access) (v : Value) (size : ℕ) → length bytes ≡ size
      → IsValue homes v (decode what bytes) → StandAt homes (encode size v) block o
  value_held homes what v size long k =
      stands_there homes (encode size v) (decoded_stand homes what v size bytes bytes_fit long k)

  pub distance_held : (homes : List Home) (size bits : ℕ) → length bytes ≡ size
      → decode (Access.Int 64) bytes ≡ Value.Int (record { width = 64; bits = bits })
      → StandAt homes (digits size bits) block o
  distance_held homes size bits long k =
      stands_there homes (digits size bits) (distance_stands homes size bits bytes bytes_fit long k)
