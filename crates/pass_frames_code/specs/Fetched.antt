-- What the loads and addresses give by which operands are fetched, where they are executed.
use Rattle.std.specs.Prelude.{◌≡◌, ◌<◌, ◌+◌, ◌^◌, ℕ, true, List, [], ◌∷◌, length, Some, None, Option}
use Rattle.pass_proofs.specs.ir_model.Ty.{Ty}
use Rattle.pass_proofs.specs.ir_model.declared.operand.Operand.{Operand}
use Rattle.pass_proofs.specs.pass_fetch.Fetching.{fetch_of, fetched_operand, fetches_of_all, next_after, value_bytes}
use Rattle.pass_proofs.specs.pass_fetch.declared.fetch.Fetch.{Fetch}
use Rattle.pass_frames_code.specs.Distances.{SetsFrom}
use Rattle.pass_proofs.specs.fetch.rules.Fetches.{base_of}
use Rattle.pass_proofs.specs.run_laws.access.Lines.{Holds, Runs, pointer_at}
use Rattle.pass_proofs.specs.run_memory.Memory.{access_bytes, decode}
use Rattle.pass_proofs.specs.run_memory.declared.block.Byte.{Byte}
use Rattle.pass_proofs.specs.run_memory.declared.pointer.Value.{Value}
use Rattle.pass_proofs.specs.run_step.Step.{Context, Work, is_alignment, value_at}
use Rattle.pass_proofs.specs.run_step.Values.{access_of, value_in}

-- a load finds bytes where its cell lies, and an address has its base in a block
pub record IsLoaded (c : Context) (w : Work) (ty : Ty) (cell : ℕ) (v : Value) : Type 0 where
  pub block : ℕ
  pub offset : ℕ
  pub most : ℕ
  pub bytes : List Byte
  pub leads : value_in w.values cell ≡ pointer_at block offset
  pub sized : length bytes ≡ access_bytes (access_of ty)
  pub holds : Holds c.rights w.world.memory block offset most bytes
  pub alignment : is_alignment (value_bytes ty) ≡ true
  pub aligned : value_bytes ty < most + 1
  pub is : v ≡ decode (access_of ty) bytes

pub record IsReached (w : Work) (base distance : ℕ) (v : Value) : Type 0 where
  pub block : ℕ
  pub offset : ℕ
  pub leads : value_in w.values base ≡ pointer_at block offset
  pub near : offset + distance < 2 ^ 64
  pub is : v ≡ pointer_at block (offset + distance)

abbrev pub IsGiven : Context → Work → Fetch → Value → Type 0
IsGiven c w (Fetch.Load ty cell) v = IsLoaded c w ty cell v
IsGiven c w (Fetch.Address base distance) v = IsReached w base distance v

-- an operand that is fetched is given a value, by a name below the first new one
abbrev pub CanFetch : List (Option Fetch) → (ℕ → Value) → ℕ → Context → Work → Operand → Type 0
CanFetch t given first c w (Operand.Local v) =
    (f : Fetch) → fetch_of t (Operand.Local v) ≡ Some f → IsGiven c w f (given v) × (base_of f < first)
CanFetch t given first c w _ = Unit {0}

-- ---- what is seen of an operand: what is given of it where it is fetched, else its value

abbrev pub given_of : (ℕ → Value) → Operand → Value
given_of given (Operand.Local v) = given v
given_of given _ = Value.Poison

abbrev pub seen_by : (ℕ → Value) → Context → Work → Ty → Operand → Option Fetch → Value
seen_by given c w ty x None = value_at c w ty x
seen_by given c w ty x (Some f) = given_of given x

abbrev pub seen_of : List (Option Fetch) → (ℕ → Value) → Context → Work → Ty → Operand → Value
seen_of t given c w ty x = seen_by given c w ty x (fetch_of t x)

-- an operand has in its place what is seen of it
abbrev pub IsSeenAs : List (Option Fetch) → (ℕ → Value) → Context → (w x : Work) → Operand → Operand → Type 0
IsSeenAs t given c w x a b = (ty : Ty) → value_at c x ty b ≡ seen_of t given c w ty a

-- so has each operand, in order, from a new name on
abbrev pub AreSeenAs : List (Option Fetch) → (ℕ → Value) → Context → (w x : Work) → ℕ → List Operand → Type 0
AreSeenAs t given c w x n [] = Unit {0}
AreSeenAs t given c w x n (a ∷ xs) =
    IsSeenAs t given c w x a (fetched_operand t n a) × AreSeenAs t given c w x (next_after t n a) xs

-- ---- operands are fetched: nothing but new names is set

pub record AreFetched (t : List (Option Fetch)) (given : ℕ → Value) (c : Context) (n : ℕ) (xs : List Operand)
    (w : Work)
    : Type 0 where
  pub work : Work
  pub runs : Runs c (fetches_of_all t n xs) w work
  pub sets : SetsFrom n w work
  pub seen : AreSeenAs t given c w work n xs
