use mathlib.Core.Path.{refl}
use Rattle.checking.specs.Laws.Names.{window_layout, window_view}
use Rattle.checking.proofs.turns.access_of.Goals as goal

pub layout_in-layout-requires : goal.layout_in-layout-requires
layout_in-layout-requires c = let s = c in (s.requires.0, window_layout _ _ _ s.requires.1)

pub view_named-view-requires : goal.view_named-view-requires
view_named-view-requires c = let s = c in (s.requires.0, window_view _ _ _ s.requires.1)

pub returns : goal.returns
returns c =
    rw (c.layout_in-layout.ensures, c.view_named-view.ensures, c.is_viewed.ensures, c.bytes.ensures)
    refl
