use Rattle.colour_matrix.proofs.Raised.{nine_entries, entry_in_32}
use Rattle.colour_matrix.proofs.matrix.Matrix.forward.Goals as goal

pub invariant_of-result : goal.invariant_of-result
invariant_of-result c =
    nine_entries _ _ _ _ _ _ _ _ _
    (entry_in_32 _ c.product.ensures.entry) (entry_in_32 _ c.product-2.ensures.entry)
    (entry_in_32 _ c.product-3.ensures.entry) (entry_in_32 _ c.product-4.ensures.entry)
    (entry_in_32 _ c.product-5.ensures.entry) (entry_in_32 _ c.product-6.ensures.entry)
    (entry_in_32 _ c.product-7.ensures.entry) (entry_in_32 _ c.product-8.ensures.entry)
    (entry_in_32 _ c.product-9.ensures.entry)
