mod InStyles
