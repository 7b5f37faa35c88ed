-- The exclusive or of four table entries is a column.
use Rattle.std.proofs.Common.{◌≡◌, ℕ, [], ◌∷◌, sym, ap, ◌∙◌}
use lib.Bits.{bit_xor, xor_assoc, xor_comm}
use lib.Lanes.{zip2}
use Rattle.aes.specs.Field.{xtime}
use Rattle.aes.specs.Round.{sub, times3, mix}
use Rattle.columns.specs.Columns.{entry, column}

-- four in a row, from each place on
from0 : (a b c d : ℕ) → bit_xor (bit_xor (bit_xor a b) c) d ≡ bit_xor (bit_xor a b) (bit_xor c d)
from0 a b c d = xor_assoc (bit_xor a b) c d

from2 : (a b c d : ℕ) → bit_xor (bit_xor (bit_xor a b) c) d ≡ bit_xor (bit_xor c d) (bit_xor a b)
from2 a b c d = from0 a b c d ∙ xor_comm (bit_xor a b) (bit_xor c d)

from3 : (a b c d : ℕ) → bit_xor (bit_xor (bit_xor a b) c) d ≡ bit_xor (bit_xor d a) (bit_xor b c)
from3 a b c d = ap (λ (x : ℕ). bit_xor x d) (xor_assoc a b c) ∙ xor_comm (bit_xor a (bit_xor b c)) d ∙ sym (xor_assoc d a (bit_xor b c))

from1 : (a b c d : ℕ) → bit_xor (bit_xor (bit_xor a b) c) d ≡ bit_xor (bit_xor b c) (bit_xor d a)
from1 a b c d = from3 a b c d ∙ xor_comm (bit_xor d a) (bit_xor b c)

pub entries_column : (p q s t : ℕ) → zip2 bit_xor (zip2 bit_xor (zip2 bit_xor (entry 0 p) (entry 1 q)) (entry 2 s)) (entry 3 t) ≡ column p q s t
unfolding mix
entries_column p q s t =
    let e0 = from0 (xtime (sub p)) (times3 (sub q)) (sub s) (sub t) in
    let e1 = from1 (sub p) (xtime (sub q)) (times3 (sub s)) (sub t) in
    let e2 = from2 (sub p) (sub q) (xtime (sub s)) (times3 (sub t)) in
    let e3 = from3 (times3 (sub p)) (sub q) (sub s) (xtime (sub t)) in
    λ i. e0 i ∷ e1 i ∷ e2 i ∷ e3 i ∷ []
