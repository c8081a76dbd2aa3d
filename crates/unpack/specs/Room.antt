-- What the program has room for.
use Rattle.std.specs.Prelude.{Bool, ◌&&◌, ◌*◌, leb}
use Rattle.unpack.specs.declared.packed.Packed.{Packed}

-- 1,048,576 pixels in rows of at most 16,384, and 8,191 nodes
unfoldable pub has_room : Packed → Bool
has_room p = leb p.width 16384 && leb p.rows 1048576 && leb (p.rows * p.width) 1048576 && leb p.nodes 8191
