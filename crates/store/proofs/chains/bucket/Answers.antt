-- The bucket, by the first part and the hash of the others.
use Rattle.std.proofs.Common.{◌≡◌, ◌+◌, ◌-◌, ◌/◌, ◌%◌, ℕ, get_or, length, List, take, drop, ap, ◌∙◌, arith}
use Rattle.std.proofs.lemmas.List.{length-take-le, length-drop, get_or-take, take_rest}
use Rattle.std.proofs.lemmas.Grind.{get_or_after_one}
use lib.Bits.{bit_and}
use Rattle.store.specs.Slots.{kind_of, arity_of, tag_of}
use Rattle.store.specs.Chains.{hash_of, mix_of, bucket_of}
use Rattle.store.proofs.Chaining.{bucket_no_parts, bucket_parts}
use Rattle.store.proofs.chains.bucket.Goals as goal

pub returns-in-empty-clause-is : goal.returns-in-empty-clause-is
unfolding bucket_of
returns-in-empty-clause-is c =
    let key = c.args.key.now in
    let tag : tag_of c.kind-kind.result ≡ tag_of (kind_of key.head) = ap tag_of c.kind-kind.ensures in
    let few : length (take c.arity.result key.parts) ≡ c.arity.result = length-take-le c.arity.result key.parts (omega arith) in
    let less = c.in-empty.len_below in
    ap (λ (x : ℕ). bit_and (x / 4294967296) c.args.mask) (c.mix-h.ensures ∙ ap (λ (x : ℕ). mix_of x 0) c.kind-kind.ensures)
    ∙ bucket_no_parts c.args.mask (kind_of key.head) (arity_of (kind_of key.head)) (λ k. get_or key.parts k 0) (omega arith)

pub returns-in-len1-up-clause-is : goal.returns-in-len1-up-clause-is
unfolding bucket_of
returns-in-len1-up-clause-is c =
    let key = c.args.key.now in
    let p : ℕ → ℕ = λ k. get_or key.parts k 0 in
    let used = take c.arity.result key.parts in
    let tag : tag_of c.kind-kind.result ≡ tag_of (kind_of key.head) = ap tag_of c.kind-kind.ensures in
    let few : length used ≡ c.arity.result = length-take-le c.arity.result key.parts (omega arith) in
    let some = c.in-len1-up.len_at_least in
    let rest : List ℕ = take (length used - 1) (drop 1 used) in
    let all : rest ≡ drop 1 used = take_rest used 1 in
    let others : length rest ≡ length used - 1 = ap length all ∙ length-drop 1 used in
    let q : ℕ → ℕ = λ i. get_or rest i 0 in
    let kind : c.mix-h.result ≡ mix_of (kind_of key.head) 0 = c.mix-h.ensures ∙ ap (λ (x : ℕ). mix_of x 0) c.kind-kind.ensures in
    ap (λ (x : ℕ). bit_and ((x + c.hash.result / 4294967296) % 18446744073709551616) c.args.mask)
    (get_or-take c.arity.result key.parts 0 0 (omega arith))
    ∙ bucket_parts c.args.mask (kind_of key.head) (arity_of (kind_of key.head)) c.hash.result (length rest) p q (omega arith)
    (λ i l. ap (λ (xs : List ℕ). get_or xs i 0) all ∙ get_or_after_one used i 0
    ∙ get_or-take c.arity.result key.parts (1 + i) 0 (omega arith) ∙ ap p (omega arith))
    (c.hash.ensures ∙ ap (λ (x : ℕ). hash_of x q (length rest)) kind)
