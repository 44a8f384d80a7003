-- A row of groups that are whole bytes, and of the samples left after them.
use Rattle.std.proofs.Common.{◌≡◌, ℕ, ◌+◌, ◌-◌, ◌*◌, ◌/◌, ◌%◌, ◌^◌, ◌<◌, ◌≤◌, List, ◌++◌, All, length, set, take, drop}
use Rattle.std.proofs.Common.{refl, sym, ap, ◌∙◌, subst, arith}
use Rattle.std.specs.List.{flat_map}
use Rattle.std.proofs.lemmas.List.{length-set, length-take-le, take-append-drop, take_all, take_rest}
use borrow.Rule.Slice.PartMut.{put_mid}
use Rattle.binary_digits.specs.Digits.{bits_of, byte_bits}
use Rattle.strip_unpack.specs.Samples.{Spells}
use Rattle.strip_unpack.proofs.Rows.{end_written}
use Rattle.strip_unpack.proofs.Unpacking.{Unpacked, group_end, groups_spell, next_field, spells_joined, whole_register}

pub row_of_groups : (depth a k : ℕ) (out bytes xs ys : List ℕ) → length xs ≡ length (take a out) → a ≤ length out
    → All (λ x. x < 2 ^ depth) xs → byte_bits (take k bytes) ≡ flat_map (bits_of depth) xs
    → Spells (bits_of depth) depth ys (take (length bytes - k) (drop k bytes))
    → Spells (bits_of depth) depth (put_mid a (length (xs ++ drop a out) - a) (xs ++ drop a out) ys) bytes
row_of_groups depth a k out bytes xs ys long within fits spelled rest =
    let P : List ℕ → Type 0 = λ zs. Spells (bits_of depth) depth zs bytes in
    let Q : List ℕ → Type 0 = λ bs. Spells (bits_of depth) depth (xs ++ ys) bs in
    let R : List ℕ → Type 0 = λ bs. Spells (bits_of depth) depth ys bs in
    let joined = spells_joined depth xs ys (take k bytes) (drop k bytes) fits spelled
    (subst R (take_rest bytes k) rest) in
    subst P (sym (end_written a xs (drop a out) ys (long ∙ length-take-le a out within)))
    (subst Q (take-append-drop k bytes) joined)

-- the four samples of a group, from the register of its bytes
pub four_fields : (depth register first next x0 x1 x2 x3 : ℕ) (out bytes : List ℕ) → next ≡ first + 4
    → next ≤ length out → x0 ≡ register / 2 ^ (depth * 3) % 2 ^ depth → x1 ≡ register / 2 ^ (depth * 2) % 2 ^ depth
    → x2 ≡ register / 2 ^ depth % 2 ^ depth → x3 ≡ register / 2 ^ 0 % 2 ^ depth
    → Unpacked depth (depth * 4) register (take first out) bytes
    → Unpacked depth 0 0 (take next (set (set (set (set out first x0) (first + 1) x1) (first + 2) x2) (first + 3) x3))
    bytes
four_fields depth register first next x0 x1 x2 x3 out bytes step room is0 is1 is2 is3 u =
    let out1 = set out first x0 in
    let out2 = set out1 (first + 1) x1 in
    let out3 = set out2 (first + 2) x2 in
    let long1 = length-set out first x0 in
    let long2 = length-set out1 (first + 1) x1 in
    let long3 = length-set out2 (first + 2) x2 in
    let v0 = next_field depth (depth * 4) (depth * 3) register first (first + 1) x0 out bytes refl (omega arith)
    (omega arith) is0 (whole_register depth (depth * 4) register _ _ u) in
    let v1 = next_field depth (depth * 3) (depth * 2) register (first + 1) (first + 2) x1 out1 bytes (omega arith)
    (omega arith) (omega arith) is1 v0 in
    let v2 = next_field depth (depth * 2) depth register (first + 2) (first + 3) x2 out2 bytes (omega arith)
    (omega arith) (omega arith) is2 v1 in
    let v3 = next_field depth depth 0 register (first + 3) next x3 out3 bytes (omega arith) (omega arith)
    (omega arith) is3 v2 in
    group_end depth register _ _ v3

-- groups that took all samples and all bytes
pub all_groups : (depth a k : ℕ) (out bytes : List ℕ) → length out ≤ a → length bytes ≤ k
    → Unpacked depth 0 0 (take a out) (take k bytes) → byte_bits bytes ≡ flat_map (bits_of depth) out
all_groups depth a k out bytes samples read u =
    ap byte_bits (sym (take_all k bytes read)) ∙ groups_spell depth _ _ u
    ∙ ap (flat_map (bits_of depth)) (take_all a out samples)
