-- Stores of bytes, one more.
use Rattle.std.proofs.Common.{◌≡◌, ℕ, suc, ◌+◌, ◌-◌, ◌<◌, List, [], ◌++◌, refl, sym, ap, ◌∙◌, append_assoc, append-nil, arith}
use Rattle.clang_reader.specs.Written.{byte_stores, address, store_to, fresh}

pub one_more : (line : ℕ) (p b : List ℕ) (k n : ℕ) (out : List (List ℕ)) → k < n
    → ((out ++ address (fresh line k) p k) ++ store_to (fresh line k) b) ++ byte_stores line p b (k + 1) (n - (k + 1)) ≡ out ++ byte_stores line p b k (n - k)
one_more line p b k n out less =
    let left : n - k ≡ suc (n - (k + 1)) = omega arith in
    rw left (append_assoc (out ++ address (fresh line k) p k) (store_to (fresh line k) b) (byte_stores line p b (k + 1) (n - (k + 1)))
    ∙ append_assoc out (address (fresh line k) p k) (store_to (fresh line k) b ++ byte_stores line p b (k + 1) (n - (k + 1))))

pub none_more : (line : ℕ) (p b : List ℕ) (n : ℕ) (out : List (List ℕ)) → out ++ byte_stores line p b n (n - n) ≡ out
none_more line p b n out =
    let left : n - n ≡ 0 = omega arith in
    rw left (append-nil out)
