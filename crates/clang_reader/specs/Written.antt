-- What a line becomes.
use Rattle.std.specs.Prelude.{ℕ, zero, suc, ◌+◌, List, [], ◌∷◌, ◌++◌, codes, drop, take, decimal}
use Rattle.clang_tokens.specs.Words.{at}
use Rattle.clang_reader.specs.Forms.{memset_place, value_of}
use Rattle.clang_reader.specs.declared.form.Form.{Form}

-- a name that no line of clang has: `%.clang.LINE.K`
abbrev pub fresh : ℕ → ℕ → List ℕ
fresh line k = codes "%.clang." ++ (decimal line ++ (codes "." ++ decimal k))

-- `W(ptr A, ptr H)`, where `NAME(ptr A, ptr H, ptr W)` stands from the position on
unfoldable pub wrapper_call : ℕ → List (List ℕ) → List (List ℕ)
wrapper_call i ts =
    at (i + 9) ts ∷ codes "(" ∷ codes "ptr" ∷ at (i + 3) ts ∷ codes "," ∷ codes "ptr" ∷ at (i + 6) ts ∷ codes ")" ∷ []

-- `call void @llvm.coro.resume`
unfoldable pub resume_front : List (List ℕ)
resume_front = codes "call" ∷ codes "void" ∷ codes "@llvm.coro.resume" ∷ []

-- `(ptr F)`
unfoldable pub resume_back : List ℕ → List (List ℕ)
resume_back f = codes "(" ∷ codes "ptr" ∷ f ∷ codes ")" ∷ []

-- `call void @llvm.coro.resume(ptr F)`
unfoldable pub resume_call : List ℕ → List (List ℕ)
resume_call f = resume_front ++ resume_back f

-- `F = call ptr`
unfoldable pub handle_front : List ℕ → List (List ℕ)
handle_front f = f ∷ codes "=" ∷ codes "call" ∷ codes "ptr" ∷ []

-- the wrapper's handle, which is resumed
abbrev pub handed_on : List ℕ → List (List ℕ) → List (List ℕ)
handed_on f ts = handle_front f ++ (wrapper_call 2 ts ++ (resume_call f ++ drop 13 ts))

-- `F = getelementptr`
unfoldable pub address_front : List ℕ → List (List ℕ)
address_front f = f ∷ codes "=" ∷ codes "getelementptr" ∷ []

-- `i8,`
unfoldable pub address_type : List (List ℕ)
address_type = codes "i8" ∷ codes "," ∷ []

-- `ptr P, i64 k`
unfoldable pub address_back : List ℕ → ℕ → List (List ℕ)
address_back p k = codes "ptr" ∷ p ∷ codes "," ∷ codes "i64" ∷ decimal k ∷ []

-- the address k bytes on: `F = getelementptr i8, ptr P, i64 k`
abbrev pub address : List ℕ → List ℕ → ℕ → List (List ℕ)
address f p k = address_front f ++ (address_type ++ address_back p k)

-- a store of a byte
abbrev pub store_to : List ℕ → List ℕ → List (List ℕ)
store_to f b = codes "store" ∷ codes "i8" ∷ b ∷ codes "," ∷ codes "ptr" ∷ f ∷ []

-- stores of byte B at P to P + n - 1, from P + k on
abbrev pub byte_stores : ℕ → List ℕ → List ℕ → ℕ → ℕ → List (List ℕ)
byte_stores line p b k zero = []
byte_stores line p b k (suc n) = address (fresh line k) p k ++ (store_to (fresh line k) b ++ byte_stores line p b (k + 1) n)

-- the stores of a `memset` whose pointer stands at the position
abbrev pub stores_at : ℕ → ℕ → List (List ℕ) → List (List ℕ)
stores_at line i ts = byte_stores line (at i ts) (at (i + 3) ts) 0 (value_of 0 (at (i + 6) ts))

-- what a line of a form becomes
abbrev pub written_as : Form → ℕ → List (List ℕ) → List (List ℕ)
written_as Form.Bitcast line ts = []
written_as Form.Void line ts = take 2 ts ++ (wrapper_call 2 ts ++ drop 13 ts)
written_as Form.Bool line ts = take 4 ts ++ (wrapper_call 4 ts ++ drop 15 ts)
written_as Form.Handle line ts = handed_on (fresh line 0) ts
written_as Form.Memset line ts = stores_at line (memset_place ts) ts
written_as Form.Idle line ts = []
written_as Form.Other line ts = ts
