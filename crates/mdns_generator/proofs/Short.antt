-- The texts of the requests are short.
use Rattle.std.proofs.Common.{◌≡◌, ℕ, ◌≤◌, List, ◌++◌, length, decimal, codes, ap, length-append, arith}
use Rattle.std.proofs.lemmas.Fmt.{length-decimal-le}
use Rattle.mdns_generator.specs.Generated.{service_text, type_text}

few_digits : (n : ℕ) → n ≤ 200 → length (decimal n) ≤ 3
few_digits n l = length-decimal-le 3 n (omega arith) (omega arith) (omega arith)

pub short_service : (n : ℕ) → n ≤ 200 → length (service_text n) ≤ 1024
short_service n l = let digits : length (decimal n) ≤ 3 = few_digits n l in simp length-append (omega arith)

pub short_type : (n : ℕ) → n ≤ 200 → length (type_text n) ≤ 1024
short_type n l = let digits : length (decimal n) ≤ 3 = few_digits n l in simp length-append (omega arith)
