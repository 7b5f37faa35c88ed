-- Four parts of a list, each replaced by an equal one.
--
use Rattle.std.proofs.Common.{◌≡◌, ℕ, List, ◌++◌}

pub join4 : {ps qs rs ss xs ys zs ws : List ℕ} → ps ≡ xs → qs ≡ ys → rs ≡ zs → ss ≡ ws → ps ++ (qs ++ (rs ++ ss)) ≡ xs ++ (ys ++ (zs ++ ws))
join4 p q r s = cc
