use Rattle.curves.proofs.Products.{products}
use Rattle.curves.proofs.vectors.cross.Goals as goal

pub overflow_sub-result : goal.overflow_sub-result
overflow_sub-result c =
    let p = products c.args.v.x c.args.w.y c.args.v.y c.args.w.x c.requires.v_in.x_in c.requires.w_in.y_in c.requires.v_in.y_in c.requires.w_in.x_in in
    rw (p.first, p.second) p.difference_fits

pub returns : goal.returns
returns c =
    let p = products c.args.v.x c.args.w.y c.args.v.y c.args.w.x c.requires.v_in.x_in c.requires.w_in.y_in c.requires.v_in.y_in c.requires.w_in.x_in in
    rw (p.first, p.second) p.difference
